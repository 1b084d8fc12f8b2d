-- The framing of RFC 4571: a packet stands behind its length, two bytes, big end first. Assumes nothing.
use Rattle.std.specs.Prelude.{ℕ, ◌+◌, ◌≤◌, ◌<◌, ◌^◌, Bool, cond, ◌&&◌, List, [], ◌∷◌, ◌++◌, ◌≡◌, leb, length, take, drop}
use Rattle.octets.specs.BigEndian.{to_bytes, from_bytes}

unfoldable pub framed : (packet : List ℕ) → List ℕ
framed p = to_bytes 2 (length p) ++ p

-- a frame with a longer packet is skipped
abbrev pub max_frame_length : ℕ
max_frame_length = 2058

-- ---- f is what stands of a frame, from its first byte on
-- the length that its first two bytes tell
unfoldable pub announced : List ℕ → ℕ
announced f = from_bytes (take 2 f)

-- it is whole with these two bytes and as many as they tell
abbrev pub whole : List ℕ → Bool
whole f = leb (2 + announced f) (length f)

-- the packet that is complete with f's last byte, if there is one and it is not too long
unfoldable pub completed : List ℕ → List (List ℕ)
completed f = cond (whole f && leb (announced f) max_frame_length) (drop 2 f ∷ []) []

-- what stands of the next frame: nothing where f is whole
unfoldable pub begun : List ℕ → List ℕ
begun f = cond (whole f) [] f

-- ---- the packets of an input, where f stands of a frame already; and what then stands of a frame
abbrev pub packets_from : List ℕ → (input : List ℕ) → List (List ℕ)
packets_from f [] = []
packets_from f (b ∷ bs) = completed (f ++ (b ∷ [])) ++ packets_from (begun (f ++ (b ∷ []))) bs

abbrev pub rest_from : List ℕ → (input : List ℕ) → List ℕ
rest_from f [] = f
rest_from f (b ∷ bs) = rest_from (begun (f ++ (b ∷ []))) bs

-- the packets of an input from its first byte on. A cut frame at its end has none.
abbrev pub packets : (input : List ℕ) → List (List ℕ)
packets b = packets_from [] b

-- ---- the same in other words: every input is some frames one after the other, and a cut one behind them
abbrev pub frames : (packets : List (List ℕ)) → List ℕ
frames [] = []
frames (p ∷ ps) = framed p ++ frames ps

-- two bytes hold the length of each
abbrev pub Framed : (packets : List (List ℕ)) → Type 0
Framed [] = Unit
Framed (p ∷ ps) = (length p < 2 ^ 16) × Framed ps

-- fewer than two bytes, or fewer than they tell
abbrev pub Cut : List ℕ → Type 0
Cut f = length f ≤ 1 + announced f

abbrev pub not_too_long : List (List ℕ) → List (List ℕ)
not_too_long [] = []
not_too_long (p ∷ ps) = cond (leb (length p) max_frame_length) (p ∷ []) [] ++ not_too_long ps

pub record Parts (input : List ℕ) : Type 0 where
  pub in_frames : List (List ℕ)
  pub behind : List ℕ
  pub fit : Framed in_frames
  pub cut : Cut behind
  pub is : input ≡ frames in_frames ++ behind
