-- Laws of whole SRTCP packets: what the reader's answer tells of the bytes, and what is read of a packet that a sender made.
-- Assumes nothing.
use mathlib.Core.Path.{◌≡◌, refl, sym, ap, ◌∙◌}
use mathlib.Core.Bool.{Bool, true, false}
use mathlib.Core.List.{List, ◌++◌}
use Prim.Native.Nat.{ℕ, ◌+◌, ◌-◌, ◌^◌, ◌≤◌}
use native.Mathlib.Omega.{arith}
use lib.ListN.{length, take, drop, length-append}
use lib.Seq.{take-take, length-take-le}
use Rattle.std.specs.Prelude.{Option, None, Some}
use Rattle.std.proofs.lemmas.Option.{cond_some}
use Rattle.octets.specs.BigEndian.{to_bytes}
use Rattle.octets.proofs.BigEndianLaws.{length-to_bytes}
use Rattle.rtp.specs.Rtcp.{is_rtcp, rtcp_ssrc, rtcp_header, rtcp_payload}
use Rattle.rtp.specs.Protected.{authenticated_portion, rtcp_portion, word_of, e_flag, srtcp_index, index_word, srtcp_layout_of}
use Rattle.rtp.specs.declared.SrtcpLayout.{SrtcpLayout}
use Rattle.rtp.proofs.AnswerLaws.{cond_none}
use Rattle.rtp.proofs.FieldLaws.{drop-take}
use Rattle.rtp.proofs.RtcpLaws.{RtcpRead, rtcp-least, same-rtcp-front, rtcp-read, rtcp-answer}
use Rattle.rtp.proofs.TrailerLaws.{mki-at, tag_at, portion-parts, portion-length, Trailing, trailing}
use Rattle.rtp.proofs.IndexWordLaws.{before-word, before-word-length, word-is, word_lt, word-flag, word-index}

-- ---- what the answer tells: RTCP up to the index word, the word from there to the MKI, MKI and tag
pub record SrtcpRead (m t : ℕ) (b : List ℕ) (l : SrtcpLayout) : Type 0 where
  pub head : RtcpRead (rtcp_portion (authenticated_portion m t b)) l.header
  pub flag : l.encrypted ≡ e_flag (word_of (authenticated_portion m t b))
  pub index : l.index ≡ srtcp_index (word_of (authenticated_portion m t b))
  pub least : 8 ≤ l.word
  pub word : l.word + 4 ≡ l.mki
  pub trailer : Trailing m t b l.mki l.tag
  pub rtcp-part : rtcp_portion (authenticated_portion m t b) ≡ take l.word b
  pub header-part : rtcp_header (rtcp_portion (authenticated_portion m t b)) ≡ take 8 b
  pub payload-part : rtcp_payload (rtcp_portion (authenticated_portion m t b)) ≡ take (l.word - 8) (drop 8 b)

rtcp-take : (a : List ℕ) (n : ℕ) → length a - 4 ≡ n → rtcp_portion a ≡ take n a
unfolding rtcp_portion
rtcp-take a n e = rw e

pub srtcp-read : {r : Option SrtcpLayout} {m t : ℕ} {b : List ℕ} {l : SrtcpLayout} →
    r ≡ srtcp_layout_of m t b → r ≡ Some l → SrtcpRead m t b l
unfolding srtcp_layout_of
srtcp-read {r} {m} {t} {b} {l} e f =
    let a : List ℕ = authenticated_portion m t b in
    let d = cond_some (is_rtcp (rtcp_portion a)) _ l (sym e ∙ f) in
    let eh = ap (λ (x : SrtcpLayout). x.header) d.1 in
    let ew : length a - 4 ≡ l.word = cc in
    let ek : length b - (m + t) ≡ l.mki = cc in
    let ej : length b - t ≡ l.tag = cc in
    let n : 8 ≤ length a - 4 = omega (arith, rtcp-least (rtcp_portion a) d.0, before-word-length a) in
    let la : length a ≡ length b - (m + t) = portion-length m t b in
    let y : Trailing m t b l.mki l.tag = rw (ek, ej) at (trailing m t b (omega arith)) in
    let p : rtcp_portion a ≡ take l.word b = rtcp-take a l.word ew ∙ ap (take l.word) y.portion-part ∙ take-take l.word l.mki b (omega arith) in
    record {
      head = record { rtcp = d.0; ssrc = cc };
      flag = cc;
      index = cc;
      least = omega arith;
      word = omega arith;
      trailer = y;
      rtcp-part = p;
      header-part = rw p (take-take 8 l.word b (omega arith));
      payload-part = rw p (drop-take 8 l.word b);
    }

pub srtcp-unread : {r : Option SrtcpLayout} (m t : ℕ) (b : List ℕ) → r ≡ srtcp_layout_of m t b → r ≡ None →
    is_rtcp (rtcp_portion (authenticated_portion m t b)) ≡ false
unfolding srtcp_layout_of
srtcp-unread m t b e f = cond_none (is_rtcp (rtcp_portion (authenticated_portion m t b))) _ (sym e ∙ f)

-- ---- what the receiver reads is what the sender read: of p's 8 clear bytes, a payload y, the word of e and i, MKI and tag
pub srtcp-made : (p y m t : List ℕ) (e : Bool) (i : ℕ) → is_rtcp p ≡ true → length y ≡ length p - 8 → i ≤ 2 ^ 31 - 1 →
    srtcp_layout_of (length m) (length t) (rtcp_header p ++ y ++ to_bytes 4 (index_word e i) ++ m ++ t)
    ≡ Some (record {
      header = record { ssrc = rtcp_ssrc p };
      encrypted = e;
      index = i;
      word = length p;
      mki = length p + 4;
      tag = length p + 4 + length m;
    })
unfolding srtcp_layout_of
srtcp-made p y m t e i r ly h =
    let c : List ℕ = rtcp_header p ++ y in
    let f : List ℕ = c ++ to_bytes 4 (index_word e i) in
    let d = rtcp-read refl (same-rtcp-front p r y ly ∙ rtcp-answer p r) in
    let lc : length c ≡ length p = length-append (rtcp_header p) y ∙ omega (arith, ly, length-take-le 8 p (rtcp-least p r), rtcp-least p r) in
    let lf : length f ≡ length p + 4 = length-append c (to_bytes 4 (index_word e i)) ∙ omega (arith, lc, length-to_bytes 4 (index_word e i)) in
    let lw : length p + 4 - 4 ≡ length p = omega arith in
    let w : word_of f ≡ index_word e i = word-is c (index_word e i) (word_lt e i) in
    let n : ℕ = length t in
    rw (mki-at f m t n refl, tag_at f m t n refl, portion-parts f m t n refl, lf, lw, before-word c (index_word e i))
    (rw (w, word-flag e i, word-index e i h, d.rtcp, ← d.ssrc))
