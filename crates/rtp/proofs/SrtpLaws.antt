-- Laws of whole SRTP packets: what the reader's answer tells of the bytes, and what is read of a packet that a sender made.
-- Assumes nothing.
use mathlib.Core.Path.{◌≡◌, refl, sym, ap, ◌∙◌}
use mathlib.Core.Bool.{true, false}
use mathlib.Core.List.{List, ◌++◌}
use Prim.Native.Nat.{ℕ, ◌+◌, ◌-◌, ◌≤◌}
use native.Mathlib.Omega.{arith}
use lib.ListN.{length, take, drop, length-append}
use lib.Seq.{take-take}
use Rattle.std.specs.Prelude.{Option, None, Some}
use Rattle.std.proofs.lemmas.Option.{cond_some}
use Rattle.rtp.specs.Rtp.{is_rtp, header_length, sequence_number, rtp_ssrc, header, payload}
use Rattle.rtp.specs.Protected.{authenticated_portion, srtp_layout_of}
use Rattle.rtp.specs.declared.SrtpLayout.{SrtpLayout}
use Rattle.rtp.proofs.AnswerLaws.{cond_none}
use Rattle.rtp.proofs.FieldLaws.{drop-take}
use Rattle.rtp.proofs.RtpLaws.{RtpRead, header-least, rtp-fits, header-length, same-front, rtp-read, rtp-answer}
use Rattle.rtp.proofs.TrailerLaws.{mki-at, tag_at, portion-parts, portion-length, Trailing, trailing}

-- ---- what the answer tells: a header, the payload from its end to the MKI, MKI and tag
pub record SrtpRead (m t : ℕ) (b : List ℕ) (l : SrtpLayout) : Type 0 where
  pub head : RtpRead (authenticated_portion m t b) l.header
  pub fits : l.header.len ≤ l.mki
  pub trailer : Trailing m t b l.mki l.tag
  pub header-part : header (authenticated_portion m t b) ≡ take l.header.len b
  pub payload-part : payload (authenticated_portion m t b) ≡ take (l.mki - l.header.len) (drop l.header.len b)

pub srtp-read : {r : Option SrtpLayout} {m t : ℕ} {b : List ℕ} {l : SrtpLayout} →
    r ≡ srtp_layout_of m t b → r ≡ Some l → SrtpRead m t b l
unfolding srtp_layout_of
srtp-read {r} {m} {t} {b} {l} e f =
    let a : List ℕ = authenticated_portion m t b in
    let d = cond_some (is_rtp a) _ l (sym e ∙ f) in
    let eh = ap (λ (x : SrtpLayout). x.header) d.1 in
    let en : l.header.len ≡ header_length a = cc in
    let ek : length b - (m + t) ≡ l.mki = cc in
    let ej : length b - t ≡ l.tag = cc in
    let n : l.header.len ≤ l.mki = omega (arith, rtp-fits a d.0, portion-length m t b) in
    let w : Trailing m t b l.mki l.tag = rw (ek, ej) at (trailing m t b (omega (arith, header-least a))) in
    record {
      head = record { rtp = d.0; size = en; number = cc; ssrc = cc };
      fits = n;
      trailer = w;
      header-part = rw (← en, w.portion-part) (take-take l.header.len l.mki b n);
      payload-part = rw (← en, w.portion-part) (drop-take l.header.len l.mki b);
    }

pub srtp-unread : {r : Option SrtpLayout} (m t : ℕ) (b : List ℕ) → r ≡ srtp_layout_of m t b → r ≡ None →
    is_rtp (authenticated_portion m t b) ≡ false
unfolding srtp_layout_of
srtp-unread m t b e f = cond_none (is_rtp (authenticated_portion m t b)) _ (sym e ∙ f)

-- ---- what the receiver reads is what the sender read: of the header of p, a payload y, MKI and tag
pub srtp-made : (p y m t : List ℕ) → is_rtp p ≡ true →
    srtp_layout_of (length m) (length t) (header p ++ y ++ m ++ t)
    ≡ Some (record {
      header = record { len = header_length p; sequence_number = sequence_number p; ssrc = rtp_ssrc p };
      mki = header_length p + length y;
      tag = header_length p + length y + length m;
    })
unfolding srtp_layout_of
srtp-made p y m t r =
    let f : List ℕ = header p ++ y in
    let d = rtp-read refl (same-front p r y ∙ rtp-answer p r) in
    let l : length f ≡ header_length p + length y = length-append (header p) y ∙ ap (λ (n : ℕ). n + length y) (header-length p r) in
    let n : ℕ = length t in
    rw (mki-at f m t n refl, tag_at f m t n refl, portion-parts f m t n refl, l, d.rtp, ← d.size, ← d.number, ← d.ssrc)
