-- Whatever bytes come in, the desk's output is frames of packets that RFC 3711 turns into packets of the input, under one SSRC, in order and no
-- two at one index. Assumes nothing.
use Rattle.std.specs.Prelude.{None}
use Prim.Native.Nat.{ℕ}
use mathlib.Core.Bool.{Bool, true, false, cond, ◌&&◌}
use mathlib.Core.List.{List, [], ◌∷◌, ◌++◌}
use mathlib.Core.Logic.{inl, inr}
use mathlib.Core.Path.{◌≡◌, refl, sym, ap, subst, ◌∙◌}
use borrow.Author.Tests.{eqb-true}
use lib.Dec.{eqb, leb}
use lib.ListN.{length, drop}
use Rattle.octets.specs.BigEndian.{Bytes}
use Rattle.octets.proofs.BufferLaws.{take-over}
use Rattle.replay.specs.Accepted.{Once}
use Rattle.rtp.proofs.FieldLaws.{bytes_drop}
use Rattle.session.specs.SetUps.{SetUp}
use Rattle.srtp.specs.Contexts.{set_up_receiver}
use Rattle.srtp.specs.Outcomes.{Outcome, refused, done, answer_of, next_of}
use Rattle.srtp.specs.declared.Receiver.{Receiver}
use Rattle.demands.specs.Demands.{Opened}
use Rattle.demands.specs.Runs.{media, Call, receiving, accepted_by, accepted, receiver_after, receiver_outcome}
use Rattle.demands.specs.Words.{comes_out}
use Rattle.desk.specs.Framing.{announced, whole, completed, begun, packets_from, packets, frames}
use Rattle.desk.specs.Listening.{set_up_under, written, served, start, output}
use Rattle.desk_stream.specs.Streams.{room, as_media, as_media_all, frames_out, Opening, bytes_of, packets_of, indices_of, EachOpened, Among, OneStream, DeskOpens}
use Rattle.desk_stream.proofs.OneStream.{one-stream, desk-writes}
use Rattle.desk_stream.proofs.StreamDemands.{fresh-is, stream-demand2, stream-once}
use Rattle.desk_stream.proofs.RunLaws.{after_last}

-- ---- the packets of bytes are bytes
abbrev AllBytes : List (List ℕ) → Type 0
AllBytes [] = Unit {0}
AllBytes (p ∷ ps) = Bytes p × AllBytes ps

bytes-append : (a b : List ℕ) → Bytes a → Bytes b → Bytes (a ++ b)
bytes-append [] b x y = y
bytes-append (n ∷ a) b x y = (x.0, bytes-append a b x.1 y)

all-behind : (ps qs : List (List ℕ)) → AllBytes (ps ++ qs) → AllBytes qs
all-behind [] qs y = y
all-behind (p ∷ ps) qs y = all-behind ps qs y.1

completed-bytes : (f : List ℕ) → Bytes f → (ps : List (List ℕ)) → AllBytes ps → AllBytes (completed f ++ ps)
unfolding completed
completed-bytes f x ps y = go (whole f && leb (announced f) 2058)
  where
    go : (t : Bool) → AllBytes (cond t (drop 2 f ∷ []) [] ++ ps)
    go true = (bytes_drop 2 f x, y)
    go false = y

begun-bytes : (f : List ℕ) → Bytes f → Bytes (begun f)
unfolding begun
begun-bytes f x = go (whole f)
  where
    go : (t : Bool) → Bytes (cond t [] f)
    go true = tt
    go false = x

packets-bytes : (f b : List ℕ) → Bytes f → Bytes b → AllBytes (packets_from f b)
packets-bytes f [] x y = tt
packets-bytes f (n ∷ b) x y =
    let g : List ℕ = f ++ (n ∷ []) in
    let z : Bytes g = bytes-append f (n ∷ []) x (y.0, tt) in
    completed-bytes g z (packets_from (begun g) b) (packets-bytes (begun g) b (begun-bytes g z) y.1)

-- ---- among others
among-more : (qs : List (List ℕ)) (p : List ℕ) (ps : List (List ℕ)) → Among qs ps → Among qs (p ∷ ps)
among-more [] p ps h = tt
among-more (q ∷ qs) p ps h = inr h

among-behind : (qs xs ps : List (List ℕ)) → Among qs ps → Among qs (xs ++ ps)
among-behind qs [] ps h = h
among-behind qs (x ∷ xs) ps h = among-more qs x (xs ++ ps) (among-behind qs xs ps h)

-- ---- what a receiver opens of packets
abbrev opening_by : (bytes : List ℕ) → Outcome Receiver → List Opening
opening_by b (refused n) = []
opening_by b (done p i r) = record { bytes = b; packet = p; index = i } ∷ []

abbrev openings_in : Receiver → List (List ℕ) → List Opening
openings_in r [] = []
openings_in r (b ∷ bs) = opening_by b (receiving r (as_media b)) ++ openings_in (next_of (receiving r (as_media b)) r) bs

module _ (b : List ℕ) (hs : List Opening) where
  written-by : (o : Outcome Receiver) → written o ++ frames (packets_of hs) ≡ frames (packets_of (opening_by b o ++ hs))
  written-by (refused n) = refl
  written-by (done p i r) = refl

  indices-by : (o : Outcome Receiver) → accepted_by media media (answer_of o) ++ indices_of hs ≡ indices_of (opening_by b o ++ hs)
  indices-by (refused n) = refl
  indices-by (done p i r) = refl

  among-by : (bs : List (List ℕ)) → Among (bytes_of hs) bs → (o : Outcome Receiver) → Among (bytes_of (opening_by b o ++ hs)) (b ∷ bs)
  among-by bs h (refused n) = among-more (bytes_of hs) b bs h
  among-by bs h (done p i r) = inl (refl, h)

openings-frames : (r : Receiver) (bs : List (List ℕ)) → frames_out r (as_media_all bs) ≡ frames (packets_of (openings_in r bs))
openings-frames r [] = refl
openings-frames r (b ∷ bs) =
    let o : Outcome Receiver = receiving r (as_media b) in
    ap (λ (t : List ℕ). written o ++ t) (openings-frames (next_of o r) bs) ∙ written-by b (openings_in (next_of o r) bs) o

openings-indices : (r : Receiver) (bs : List (List ℕ)) → accepted media r (as_media_all bs) ≡ indices_of (openings_in r bs)
openings-indices r [] = refl
openings-indices r (b ∷ bs) =
    let o : Outcome Receiver = receiving r (as_media b) in
    ap (λ (is : List ℕ). accepted_by media media (answer_of o) ++ is) (openings-indices (next_of o r) bs) ∙ indices-by b (openings_in (next_of o r) bs) o

openings-among : (r : Receiver) (bs : List (List ℕ)) → Among (bytes_of (openings_in r bs)) bs
openings-among r [] = tt
openings-among r (b ∷ bs) =
    let o : Outcome Receiver = receiving r (as_media b) in
    among-by b (openings_in (next_of o r) bs) bs (openings-among (next_of o r) bs) o

-- ---- from set-up on, each is opened
module _ (key : List ℕ) (ssrc : ℕ) where
  abbrev u : SetUp
  u = set_up_under key ssrc

  abbrev r₀ : Receiver
  r₀ = (set_up_receiver u 0 None).context

  one-opened : (earlier : List Call) (b : List ℕ) → Bytes b → (hs : List Opening) → EachOpened u hs → (o : Outcome Receiver)
      → receiver_outcome u 0 None earlier (as_media b) ≡ o → EachOpened u (opening_by b o ++ hs)
  one-opened earlier b y hs h (refused n) e = h
  one-opened earlier b y hs h (done p i r) e =
      let out : comes_out (receiver_outcome u 0 None earlier (as_media b)) room ≡ p =
      ap (λ (x : Outcome Receiver). comes_out x room) e ∙ take-over p room in
      (subst (λ (x : List ℕ). Opened media u b x i) out ((stream-demand2 key ssrc).opens earlier (as_media b) i y (length p, ap answer_of e)), h)

  each-opened : (earlier : List Call) (bs : List (List ℕ)) → AllBytes bs → EachOpened u (openings_in (receiver_after u 0 None earlier) bs)
  each-opened earlier [] y = tt
  each-opened earlier (b ∷ bs) y =
      let r : Receiver = receiver_after u 0 None earlier in
      let o : Outcome Receiver = receiving r (as_media b) in
      one-opened earlier b y.0 (openings_in (next_of o r) bs)
      (subst (λ (x : Receiver). EachOpened u (openings_in x bs)) (after_last receiving r₀ earlier (as_media b))
      (each-opened (earlier ++ (as_media b ∷ [])) bs y.1)) o refl

-- ---- the desk
with-key : (key input : List ℕ) → Bytes input → length key ≡ 30 → DeskOpens key input
with-key key input y k =
    let s : OneStream key (packets input) = one-stream key (packets input) in
    let u : SetUp = set_up_under key s.ssrc in
    let r : Receiver = (set_up_receiver u 0 None).context in
    record {
      ssrc = s.ssrc;
      openings = openings_in r s.stream;
      writes =
          desk-writes key input k ∙ ap (λ (x : Receiver). frames_out x (as_media_all s.stream)) (fresh-is key s.ssrc)
          ∙ openings-frames r s.stream;
      among =
          subst (λ (ps : List (List ℕ)). Among (bytes_of (openings_in r s.stream)) ps) (sym s.parts)
          (among-behind (bytes_of (openings_in r s.stream)) s.before s.stream (openings-among r s.stream));
      opened = each-opened key s.ssrc [] s.stream (all-behind s.before s.stream (subst AllBytes s.parts (packets-bytes [] input tt y)));
      once = subst Once (openings-indices r s.stream) (stream-once key s.ssrc s.stream);
    }

-- under a key file of another length nothing is written
without : (key input : List ℕ) → eqb (length key) 30 ≡ false → DeskOpens key input
unfolding output
without key input e =
    record {
      ssrc = 0;
      openings = [];
      writes = ap (λ (t : Bool). cond t (served (start key) (packets input)) []) e;
      among = tt;
      opened = tt;
      once = tt;
    }

-- THE THEOREM: of every key file and every input.
pub desk-opens : (key input : List ℕ) → Bytes input → DeskOpens key input
desk-opens key input y = go (eqb (length key) 30) refl
  where
    go : (t : Bool) → eqb (length key) 30 ≡ t → DeskOpens key input
    go true e = with-key key input y (eqb-true (length key) 30 e)
    go false e = without key input e
