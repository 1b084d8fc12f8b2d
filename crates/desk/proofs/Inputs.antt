-- Every input is some whole frames one after the other and a cut one behind them, so its packets are those of RFC 4571. Assumes nothing.
use Prim.Native.Nat.{ℕ, zero, suc, ◌+◌, ◌≤◌, ◌<◌, ◌^◌}
use mathlib.Core.Bool.{Bool, true, false}
use mathlib.Core.List.{List, [], ◌∷◌, ◌++◌, append_assoc}
use mathlib.Core.Path.{◌≡◌, refl, sym, ap, ◌∙◌}
use native.Mathlib.Nat.{le_refl}
use native.Mathlib.Omega.{arith}
use borrow.Author.Tests.{leb-true, leb-false}
use lib.Dec.{leb}
use lib.ListN.{length, take, drop, length-drop, take-append-drop}
use lib.Seq.{length-take-le, take-add}
use Rattle.octets.specs.BigEndian.{Bytes, to_bytes, from_bytes}
use Rattle.octets.proofs.BigEndianLaws.{to-from_bytes}
use Rattle.rtp.proofs.FieldLaws.{bytes_take, bytes_drop, field_lt}
use Rattle.desk.specs.Framing.{framed, announced, packets, frames, Cut, not_too_long, Parts}
use Rattle.desk.proofs.Framings.{frames-read}

-- ---- an input that begins with a whole frame
module _ (b : List ℕ) (h : Bytes b) (w : 2 + announced b ≤ length b) where
  abbrev packet : List ℕ
  packet = take (announced b) (drop 2 b)

  abbrev rest : List ℕ
  rest = drop (2 + announced b) b

  packet-length : length packet ≡ announced b
  packet-length = length-take-le (announced b) (drop 2 b) (omega (arith, length-drop 2 b))

  -- two bytes tell a number of two bytes, and are its bytes
  told-lt : announced b < 2 ^ 16
  unfolding announced
  told-lt = field_lt 2 0 b h

  told-bytes : to_bytes 2 (announced b) ≡ take 2 b
  unfolding announced
  told-bytes =
      let n : length (take 2 b) ≡ 2 = length-take-le 2 b (omega arith) in
      ap (λ (k : ℕ). to_bytes k (from_bytes (take 2 b))) (sym n) ∙ to-from_bytes (take 2 b) (bytes_take 2 b h)

  front : framed packet ≡ take (2 + announced b) b
  unfolding framed
  front =
      ap (λ (k : ℕ). to_bytes 2 k ++ packet) packet-length ∙ ap (λ (t : List ℕ). t ++ packet) told-bytes ∙ sym (take-add 2 (announced b) b)

  front_rest : b ≡ framed packet ++ rest
  front_rest = sym (take-append-drop (2 + announced b) b) ∙ ap (λ (t : List ℕ). t ++ rest) (sym front)

  one_more : Parts rest → Parts b
  one_more r =
      record {
        in_frames = packet ∷ r.in_frames;
        behind = r.behind;
        fit = (omega (arith, packet-length, told-lt), r.fit);
        cut = r.cut;
        is = front_rest ∙ ap (λ (t : List ℕ). framed packet ++ t) r.is ∙ sym (append_assoc (framed packet) (frames r.in_frames) r.behind);
      }

-- ---- any input
cut-alone : (b : List ℕ) → Cut b → Parts b
cut-alone b c = record { in_frames = []; behind = b; fit = tt; cut = c; is = refl }

-- by the tests of the definition; a rest is shorter
by_front : (n : ℕ) → ((b : List ℕ) → Bytes b → length b ≤ n → Parts b) → (b : List ℕ) → Bytes b → length b ≤ suc n
    → (t : Bool) → leb (2 + announced b) (length b) ≡ t → Parts b
by_front n parts b h l true e =
    let w : 2 + announced b ≤ length b = leb-true (2 + announced b) (length b) e in
    one_more b h w (parts (drop (2 + announced b) b) (bytes_drop (2 + announced b) b h) (omega (arith, length-drop (2 + announced b) b)))
by_front n parts b h l false e = cut-alone b (omega (arith, leb-false (2 + announced b) (length b) e))

up_to : (n : ℕ) (b : List ℕ) → Bytes b → length b ≤ n → Parts b
up_to zero b h l = cut-alone b (omega arith)
up_to (suc n) b h l = by_front n (up_to n) b h l (leb (2 + announced b) (length b)) refl

-- Every list of bytes has these parts.
pub every-input : (b : List ℕ) → Bytes b → Parts b
every-input b h = up_to (length b) b h (le_refl (length b))

-- Its packets are those of its whole frames, without the ones that are too long.
pub packets-are : (b : List ℕ) (h : Bytes b) → packets b ≡ not_too_long (every-input b h).in_frames
packets-are b h =
    let r : Parts b = every-input b h in
    ap packets r.is ∙ frames-read r.in_frames r.behind r.fit r.cut
