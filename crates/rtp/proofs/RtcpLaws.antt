-- Laws of the head of an RTCP packet: it is fixed by the first 8 bytes and the length. Assumes nothing.
use mathlib.Core.Path.{◌≡◌, sym, ap, ◌∙◌}
use mathlib.Core.Bool.{true, false, ◌&&◌}
use mathlib.Core.List.{List, ◌++◌}
use Prim.Native.Nat.{ℕ, ◌-◌, ◌%◌, ◌^◌, ◌<◌, ◌≤◌}
use native.Mathlib.Omega.{arith}
use lib.Dec.{eqb, leb}
use lib.ListN.{length, length-append, length-drop, take-append-drop}
use lib.Seq.{length-take-le}
use borrow.Author.Tests.{leb-true}
use Rattle.std.specs.Prelude.{Option, None, Some}
use Rattle.std.proofs.lemmas.Bool.{and_parts}
use Rattle.std.proofs.lemmas.Option.{cond_some}
use Rattle.octets.specs.BigEndian.{Bytes}
use Rattle.rtp.specs.Rtp.{version}
use Rattle.rtp.specs.Rtcp.{is_rtcp, rtcp_ssrc, rtcp_header, rtcp_payload, rtcp_header_of}
use Rattle.rtp.specs.declared.RtcpHeader.{RtcpHeader}
use Rattle.rtp.proofs.AnswerLaws.{cond_none}
use Rattle.rtp.proofs.FieldLaws.{byte-front, field-front, field_lt}

pub rtcp-least : (p : List ℕ) → is_rtcp p ≡ true → 8 ≤ length p
unfolding is_rtcp
rtcp-least p r = leb-true _ _ (and_parts (leb 8 (length p)) (eqb (length p % 4) 0 && eqb (version p) 2) r).0

-- ---- two packets of one length that begin with h
module _ (h x y : List ℕ) (e : 8 ≤ length h) (n : length x ≡ length y) where
  pub rtcp-front : is_rtcp (h ++ x) ≡ true → is_rtcp (h ++ y) ≡ true
  unfolding is_rtcp
  rtcp-front r =
      let l : length (h ++ y) ≡ length (h ++ x) = omega (arith, length-append h x, length-append h y) in
      rw (l, byte-front h x y 0 (omega arith)) r

  pub rtcp-ssrc-front : rtcp_ssrc (h ++ y) ≡ rtcp_ssrc (h ++ x)
  unfolding rtcp_ssrc
  rtcp-ssrc-front = field-front h x y 4 4 (omega arith)

-- ---- what is read of p is read of whatever has its first 8 bytes and its length
module _ (p : List ℕ) (r : is_rtcp p ≡ true) where
  pub same-rtcp-front : (y : List ℕ) → length y ≡ length p - 8 → rtcp_header_of (rtcp_header p ++ y) ≡ rtcp_header_of p
  unfolding rtcp_header_of
  same-rtcp-front y n =
      let h : List ℕ = rtcp_header p in
      let x : List ℕ = rtcp_payload p in
      let w : h ++ x ≡ p = take-append-drop 8 p in
      let l : 8 ≤ length h = omega (arith, length-take-le 8 p (rtcp-least p r)) in
      let e : length x ≡ length y = length-drop 8 p ∙ sym n in
      let f : rtcp_ssrc (h ++ y) ≡ rtcp_ssrc p = rtcp-ssrc-front h x y l e ∙ ap rtcp_ssrc w in
      rw (rtcp-front h x y l e (rw w r), r, f)

  pub same-rtcp : (q : List ℕ) → rtcp_header q ≡ rtcp_header p → length q ≡ length p → rtcp_header_of q ≡ rtcp_header_of p
  same-rtcp q e n =
      let s : rtcp_header p ++ rtcp_payload q ≡ q = rw e at (take-append-drop 8 q) in
      ap rtcp_header_of (sym s) ∙ same-rtcp-front (rtcp_payload q) (omega (arith, length-drop 8 q))

pub rtcp-ssrc-lt : (p : List ℕ) → Bytes p → rtcp_ssrc p < 2 ^ 32
unfolding rtcp_ssrc
rtcp-ssrc-lt p b = field_lt 4 4 p b

-- ---- what the reader answers, and what its answer tells
pub rtcp-answer : (p : List ℕ) → is_rtcp p ≡ true → rtcp_header_of p ≡ Some (record { ssrc = rtcp_ssrc p })
unfolding rtcp_header_of
rtcp-answer p r = rw r

pub record RtcpRead (p : List ℕ) (h : RtcpHeader) : Type 0 where
  pub rtcp : is_rtcp p ≡ true
  pub ssrc : h.ssrc ≡ rtcp_ssrc p

pub rtcp-read : {r : Option RtcpHeader} {p : List ℕ} {h : RtcpHeader} → r ≡ rtcp_header_of p → r ≡ Some h → RtcpRead p h
unfolding rtcp_header_of
rtcp-read {r} {p} {h} e f =
    let t = cond_some (is_rtcp p) _ h (sym e ∙ f) in
    record { rtcp = t.0; ssrc = cc }

pub rtcp-unread : {r : Option RtcpHeader} (p : List ℕ) → r ≡ rtcp_header_of p → r ≡ None → is_rtcp p ≡ false
unfolding rtcp_header_of
rtcp-unread p e f = cond_none (is_rtcp p) _ (sym e ∙ f)
