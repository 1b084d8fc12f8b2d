-- Laws of the RTP header: it is fixed by its own bytes, whatever follows them, so that a receiver reads what the sender read.
-- Assumes nothing.
use mathlib.Core.Path.{◌≡◌, refl, sym, ap, ◌∙◌}
use mathlib.Core.Bool.{Bool, true, false, cond}
use mathlib.Core.List.{List, ◌++◌}
use Prim.Native.Nat.{ℕ, ◌+◌, ◌*◌, ◌^◌, ◌<◌, ◌≤◌}
use native.Mathlib.Omega.{arith}
use lib.Dec.{eqb, leb}
use lib.ListN.{length, take, drop, get_or, length-append, take-append-drop}
use lib.Seq.{length-take-le}
use borrow.Author.Tests.{le-leb, leb-true}
use Rattle.std.specs.Prelude.{Option, None, Some}
use Rattle.std.proofs.lemmas.Bool.{and_parts}
use Rattle.std.proofs.lemmas.Option.{cond_some}
use Rattle.octets.specs.BigEndian.{Bytes, from_bytes}
use Rattle.rtp.specs.Rtp.{version, csrc_end, extension_bit, extension_words, header_length}
use Rattle.rtp.specs.Rtp.{is_rtp, sequence_number, rtp_ssrc, header, payload, header_of}
use Rattle.rtp.specs.declared.Header.{Header}
use Rattle.rtp.proofs.AnswerLaws.{cond_none}
use Rattle.rtp.proofs.FieldLaws.{byte-front, field-front, field_lt}

pub header-least : (p : List ℕ) → 12 ≤ header_length p
unfolding header_length
header-least p = omega arith

pub rtp-fits : (p : List ℕ) → is_rtp p ≡ true → header_length p ≤ length p
unfolding is_rtp
rtp-fits p r = leb-true _ _ (and_parts (eqb (version p) 2) (leb (header_length p) (length p)) r).1

-- ---- two packets that begin with h, which is the first one's whole header
module _ (h x y : List ℕ) (e : header_length (h ++ x) ≡ length h) where
  pub front-least : 12 ≤ length h
  front-least = omega (arith, e, header-least (h ++ x))

  first : get_or (h ++ y) 0 0 ≡ get_or (h ++ x) 0 0
  first = byte-front h x y 0 (omega (arith, front-least))

  pub header-front : header_length (h ++ y) ≡ length h
  unfolding header_length
  header-front = rw first (go (eqb (extension_bit (h ++ x)) 1) refl) ∙ e
    where
      go : (t : Bool) → eqb (extension_bit (h ++ x)) 1 ≡ t →
          csrc_end (h ++ x) + cond t (4 + 4 * from_bytes (take 2 (drop (csrc_end (h ++ x) + 2) (h ++ y)))) 0
          ≡ csrc_end (h ++ x) + cond t (4 + 4 * extension_words (h ++ x)) 0
      go true q =
          let l : csrc_end (h ++ x) + (4 + 4 * extension_words (h ++ x)) ≡ length h = rw q at e in
          rw (field-front h x y 2 (csrc_end (h ++ x) + 2) (omega (arith, l)))
      go false q = refl

  pub rtp-front : is_rtp (h ++ x) ≡ true → is_rtp (h ++ y) ≡ true
  unfolding is_rtp
  rtp-front r =
      let v = and_parts (eqb (version (h ++ x)) 2) (leb (header_length (h ++ x)) (length (h ++ x))) r in
      rw (first, header-front, le-leb (length h) (length (h ++ y)) (omega (arith, length-append h y)), v.0)

  pub number-front : sequence_number (h ++ y) ≡ sequence_number (h ++ x)
  unfolding sequence_number
  number-front = field-front h x y 2 2 (omega (arith, front-least))

  pub ssrc-front : rtp_ssrc (h ++ y) ≡ rtp_ssrc (h ++ x)
  unfolding rtp_ssrc
  ssrc-front = field-front h x y 4 8 (omega (arith, front-least))

-- ---- a packet and its header
module _ (p : List ℕ) (r : is_rtp p ≡ true) where
  pub header-length : length (header p) ≡ header_length p
  header-length = length-take-le (header_length p) p (rtp-fits p r)

  pub header-whole : header p ++ payload p ≡ p
  header-whole = take-append-drop (header_length p) p

  pub header-size : header_length (header p ++ payload p) ≡ length (header p)
  header-size = ap header_length header-whole ∙ sym header-length

  -- what is read of p is read of whatever begins with p's header
  pub same-front : (y : List ℕ) → header_of (header p ++ y) ≡ header_of p
  unfolding header_of
  same-front y =
      let h : List ℕ = header p in
      let x : List ℕ = payload p in
      let hx : is_rtp (h ++ x) ≡ true = rw header-whole r in
      let e : header_length (h ++ y) ≡ header_length p = header-front h x y header-size ∙ header-length in
      let f : sequence_number (h ++ y) ≡ sequence_number p = number-front h x y header-size ∙ ap sequence_number header-whole in
      let g : rtp_ssrc (h ++ y) ≡ rtp_ssrc p = ssrc-front h x y header-size ∙ ap rtp_ssrc header-whole in
      rw (rtp-front h x y header-size hx, r, e, f, g)

  -- a packet with the same header bytes has the same header
  pub same-header : (q : List ℕ) → take (header_length p) q ≡ header p → header_of q ≡ header_of p
  same-header q e =
      let n : ℕ = header_length p in
      let s : header p ++ drop n q ≡ q = rw e at (take-append-drop n q) in
      ap header_of (sym s) ∙ same-front (drop n q)

-- ---- the fields of bytes
pub number_lt : (p : List ℕ) → Bytes p → sequence_number p < 2 ^ 16
unfolding sequence_number
number_lt p b = field_lt 2 2 p b

pub ssrc-lt : (p : List ℕ) → Bytes p → rtp_ssrc p < 2 ^ 32
unfolding rtp_ssrc
ssrc-lt p b = field_lt 4 8 p b

-- ---- what the reader answers, and what its answer tells
pub rtp-answer : (p : List ℕ) → is_rtp p ≡ true →
    header_of p ≡ Some (record { len = header_length p; sequence_number = sequence_number p; ssrc = rtp_ssrc p })
unfolding header_of
rtp-answer p r = rw r

pub record RtpRead (p : List ℕ) (h : Header) : Type 0 where
  pub rtp : is_rtp p ≡ true
  pub size : h.len ≡ header_length p
  pub number : h.sequence_number ≡ sequence_number p
  pub ssrc : h.ssrc ≡ rtp_ssrc p

pub rtp-read : {r : Option Header} {p : List ℕ} {h : Header} → r ≡ header_of p → r ≡ Some h → RtpRead p h
unfolding header_of
rtp-read {r} {p} {h} e f =
    let t = cond_some (is_rtp p) _ h (sym e ∙ f) in
    record { rtp = t.0; size = cc; number = cc; ssrc = cc }

pub rtp-unread : {r : Option Header} (p : List ℕ) → r ≡ header_of p → r ≡ None → is_rtp p ≡ false
unfolding header_of
rtp-unread p e f = cond_none (is_rtp p) _ (sym e ∙ f)
