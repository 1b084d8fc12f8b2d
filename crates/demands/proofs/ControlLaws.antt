-- Laws of protected control packets under a session, with E set or clear: to encipher twice is nothing, the first 8 bytes stay, and the
-- packet has the parts that it was put together from. Assumes nothing.
use Prim.Native.Nat.{ℕ, ◌+◌, ◌-◌, ◌≤◌}
use native.Mathlib.Omega.{arith}
use mathlib.Core.Path.{◌≡◌, refl, sym, ap, ◌∙◌}
use mathlib.Core.Bool.{Bool, true, false, cond}
use mathlib.Core.List.{List, ◌++◌}
use lib.ListN.{length, take, drop, length-append, take-append-drop}
use lib.Seq.{take-append_seam, drop-append_seam, length-take-le}
use Rattle.octets.specs.BigEndian.{Bytes, to_bytes}
use Rattle.octets.proofs.BigEndianLaws.{length-to_bytes}
use Rattle.rtp.specs.Rtcp.{is_rtcp, rtcp_ssrc}
use Rattle.rtp.specs.Protected.{mki_of, tag_of, rtcp_portion, word_of, e_flag, srtcp_index, index_word}
use Rattle.rtp.proofs.RtcpLaws.{rtcp-least, rtcp-front, rtcp-ssrc-front}
use Rattle.rtp.proofs.TrailerLaws.{portion-parts, mki-parts, tag-parts, parts_whole, portion-length, portion-bytes}
use Rattle.rtp.proofs.IndexWordLaws.{before-word, word-is, before-word-length, word_back, word_lt, word-whole}
use Rattle.transforms.specs.Ciphers.{ciphered}
use Rattle.transforms.proofs.CipherLaws.{length-ciphered, ciphered-twice}
use Rattle.session.specs.declared.Session.{Session}
use Rattle.session.specs.Packets.{control_tag_length, cipher_of, ssrc_of, mki_bytes, ciphered_control, control_portion, control_tag, srtcp}
use Rattle.srtp.specs.Calls.{control_received}
use Rattle.demands.proofs.SettingLaws.{length-control_tag}

-- ---- the cipher on a packet
module _ (s : Session) (i : ℕ) where
  enciphered : Bool → (clear text : List ℕ) → List ℕ
  enciphered e h x = cond e (ciphered (cipher_of s) s.control (ssrc_of s) i h x) x

  length-enciphered : (e : Bool) (h x : List ℕ) → length (enciphered e h x) ≡ length x
  unfolding enciphered
  length-enciphered true h x = length-ciphered (cipher_of s) s.control (ssrc_of s) i h x
  length-enciphered false h x = refl

  enciphered-twice : (e : Bool) (h x : List ℕ) → enciphered e h (enciphered e h x) ≡ x
  unfolding enciphered
  enciphered-twice true h x = ciphered-twice (cipher_of s) s.control (ssrc_of s) i h x
  enciphered-twice false h x = refl

  control-at : (e : Bool) (h x : List ℕ) → length h ≡ 8 → ciphered_control s e (h ++ x) i ≡ h ++ enciphered e h x
  unfolding ciphered_control enciphered
  control-at e h x l = rw (← l, take-append_seam h x, drop-append_seam h x)

  module _ (e : Bool) (p : List ℕ) (r : is_rtcp p ≡ true) where
    parts : take 8 p ++ drop 8 p ≡ p
    parts = take-append-drop 8 p

    eight : length (take 8 p) ≡ 8
    eight = length-take-le 8 p (rtcp-least p r)

    control-is : ciphered_control s e p i ≡ take 8 p ++ enciphered e (take 8 p) (drop 8 p)
    unfolding ciphered_control enciphered
    control-is = refl

    pub control-twice : ciphered_control s e (ciphered_control s e p i) i ≡ p
    control-twice =
        rw control-is (control-at e (take 8 p) (enciphered e (take 8 p) (drop 8 p)) eight
        ∙ ap (λ (q : List ℕ). take 8 p ++ q) (enciphered-twice e (take 8 p) (drop 8 p)) ∙ parts)

    pub control-length : length (ciphered_control s e p i) ≡ length p
    control-length =
        rw control-is (length-append (take 8 p) (enciphered e (take 8 p) (drop 8 p))
        ∙ ap (λ (n : ℕ). length (take 8 p) + n) (length-enciphered e (take 8 p) (drop 8 p))
        ∙ sym (length-append (take 8 p) (drop 8 p)) ∙ ap length parts)

    pub control-rtcp : is_rtcp (ciphered_control s e p i) ≡ true
    control-rtcp =
        rw control-is
        (rtcp-front (take 8 p) (drop 8 p) _ (omega (arith, eight)) (sym (length-enciphered e (take 8 p) (drop 8 p))) (ap is_rtcp parts ∙ r))

    pub control-ssrc : rtcp_ssrc (ciphered_control s e p i) ≡ rtcp_ssrc p
    control-ssrc =
        rw control-is
        (rtcp-ssrc-front (take 8 p) (drop 8 p) _ (omega (arith, eight)) (sym (length-enciphered e (take 8 p) (drop 8 p))) ∙ ap rtcp_ssrc parts)

-- ---- the parts of what is made
module _ (s : Session) (e : Bool) (p : List ℕ) (i : ℕ) where
  pub srtcp-portion : control_received s (srtcp s e p i) ≡ control_portion s e p i
  unfolding srtcp
  srtcp-portion = portion-parts (control_portion s e p i) (mki_bytes s) _ 10 (length-control_tag s (control_portion s e p i))

  pub srtcp-mki : mki_of (length (mki_bytes s)) control_tag_length (srtcp s e p i) ≡ mki_bytes s
  unfolding srtcp
  srtcp-mki = mki-parts (control_portion s e p i) (mki_bytes s) _ 10 (length-control_tag s (control_portion s e p i))

  pub srtcp-tag : tag_of control_tag_length (srtcp s e p i) ≡ control_tag s (control_portion s e p i)
  unfolding srtcp
  srtcp-tag = tag-parts (control_portion s e p i) (mki_bytes s) _ 10 (length-control_tag s (control_portion s e p i))

  pub portion-text : rtcp_portion (control_portion s e p i) ≡ ciphered_control s e p i
  unfolding control_portion
  portion-text = before-word (ciphered_control s e p i) (index_word e i)

  pub portion-word : word_of (control_portion s e p i) ≡ index_word e i
  unfolding control_portion
  portion-word = word-is (ciphered_control s e p i) (index_word e i) (word_lt e i)

  pub length-srtcp : is_rtcp p ≡ true → length (srtcp s e p i) ≡ length p + 4 + length (mki_bytes s) + control_tag_length
  unfolding srtcp control_portion
  length-srtcp r =
      let c : List ℕ = ciphered_control s e p i in
      let a : List ℕ = c ++ to_bytes 4 (index_word e i) in
      length-append (a ++ mki_bytes s) (control_tag s a)
      ∙ omega (
        arith,
        length-append a (mki_bytes s),
        length-append c (to_bytes 4 (index_word e i)),
        length-to_bytes 4 (index_word e i),
        control-length s i e p r,
        length-control_tag s a,
      )

-- and what has these parts is made
pub srtcp-back : (s : Session) (b : List ℕ) → Bytes b → (a : List ℕ) → control_received s b ≡ a → is_rtcp (rtcp_portion a) ≡ true →
    mki_of (length (mki_bytes s)) control_tag_length b ≡ mki_bytes s → tag_of control_tag_length b ≡ control_tag s a →
    b ≡ srtcp s (e_flag (word_of a)) (ciphered_control s (e_flag (word_of a)) (rtcp_portion a) (srtcp_index (word_of a))) (srtcp_index (word_of a))
unfolding srtcp control_portion
srtcp-back s b bytes a ea r m t =
    let la : length (rtcp_portion a) ≡ length a - 4 = before-word-length a in
    let l8 : 8 ≤ length (rtcp_portion a) = rtcp-least (rtcp_portion a) r in
    let lb : length a ≡ length b - (length (mki_bytes s) + 10) = sym (ap length ea) ∙ portion-length (length (mki_bytes s)) 10 b in
    let l : length (mki_bytes s) + 10 ≤ length b = omega (arith, la, l8, lb) in
    let w = word_back a (omega (arith, la, l8)) (rw (← ea) (portion-bytes (length (mki_bytes s)) 10 b bytes)) in
    rw (control-twice s (srtcp_index (word_of a)) (e_flag (word_of a)) (rtcp_portion a) r, word-whole (word_of a) w.1, w.0)
    (sym (parts_whole (length (mki_bytes s)) control_tag_length b l) ∙ rw (ea, m, t))
