-- Laws of protected media packets under a session: to encipher twice is nothing, the header stays, and the packet has the parts that it
-- was put together from. Assumes nothing.
use Prim.Native.Nat.{ℕ, ◌+◌, ◌≤◌}
use native.Mathlib.Omega.{arith}
use mathlib.Core.Path.{◌≡◌, refl, sym, ap, ◌∙◌}
use mathlib.Core.Bool.{true}
use mathlib.Core.List.{List, ◌++◌}
use lib.ListN.{length, length-append}
use lib.Seq.{take-append_seam, drop-append_seam}
use Rattle.rtp.specs.Rtp.{header_length, is_rtp, header, payload, sequence_number, rtp_ssrc}
use Rattle.rtp.specs.Protected.{mki_of, tag_of}
use Rattle.rtp.proofs.RtpLaws.{header-least, rtp-fits, header-front, rtp-front, number-front, ssrc-front, header-whole, header-size}
use Rattle.rtp.proofs.TrailerLaws.{portion-parts, mki-parts, tag-parts, parts_whole, portion-length}
use Rattle.transforms.specs.Ciphers.{ciphered}
use Rattle.transforms.proofs.CipherLaws.{length-ciphered, ciphered-twice}
use Rattle.session.specs.declared.Session.{Session}
use Rattle.session.specs.Packets.{cipher_of, ssrc_of, tag_length, mki_bytes, ciphered_media, media_tag, srtp}
use Rattle.session.specs.SetUps.{settings_listed}
use Rattle.srtp.specs.Calls.{media_portion}
use Rattle.demands.proofs.SettingLaws.{length-media_tag}

-- ---- the cipher on a packet
module _ (s : Session) (i : ℕ) where
  enciphered : (clear text : List ℕ) → List ℕ
  enciphered h x = ciphered (cipher_of s) s.media (ssrc_of s) i h x

  -- where the header is h
  media-at : (h x : List ℕ) → header_length (h ++ x) ≡ length h → ciphered_media s (h ++ x) i ≡ h ++ enciphered h x
  unfolding ciphered_media enciphered
  media-at h x e = rw (e, take-append_seam h x, drop-append_seam h x)

  module _ (p : List ℕ) (r : is_rtp p ≡ true) where
    media-is : ciphered_media s p i ≡ header p ++ enciphered (header p) (payload p)
    unfolding ciphered_media enciphered
    media-is = refl

    pub media-twice : ciphered_media s (ciphered_media s p i) i ≡ p
    unfolding enciphered
    media-twice =
        let h : List ℕ = header p in
        let x : List ℕ = payload p in
        rw media-is (media-at h (enciphered h x) (header-front h x (enciphered h x) (header-size p r))
        ∙ ap (λ (q : List ℕ). h ++ q) (ciphered-twice (cipher_of s) s.media (ssrc_of s) i h x) ∙ header-whole p r)

    pub media-length : length (ciphered_media s p i) ≡ length p
    unfolding enciphered
    media-length =
        let h : List ℕ = header p in
        let x : List ℕ = payload p in
        rw media-is (length-append h (enciphered h x) ∙ ap (λ (n : ℕ). length h + n) (length-ciphered (cipher_of s) s.media (ssrc_of s) i h x)
        ∙ sym (length-append h x) ∙ ap length (header-whole p r))

    pub media-rtp : is_rtp (ciphered_media s p i) ≡ true
    media-rtp = rw media-is (rtp-front (header p) (payload p) _ (header-size p r) (ap is_rtp (header-whole p r) ∙ r))

    pub media-number : sequence_number (ciphered_media s p i) ≡ sequence_number p
    media-number = rw media-is (number-front (header p) (payload p) _ (header-size p r) ∙ ap sequence_number (header-whole p r))

    pub media-ssrc : rtp_ssrc (ciphered_media s p i) ≡ rtp_ssrc p
    media-ssrc = rw media-is (ssrc-front (header p) (payload p) _ (header-size p r) ∙ ap rtp_ssrc (header-whole p r))

-- ---- the parts of what is made
module _ (s : Session) (p : List ℕ) (i : ℕ) (g : settings_listed s.settings ≡ true) where
  pub srtp-portion : media_portion s (srtp s p i) ≡ ciphered_media s p i
  unfolding srtp
  srtp-portion = portion-parts (ciphered_media s p i) (mki_bytes s) _ (tag_length s) (length-media_tag s g (ciphered_media s p i) i)

  pub srtp-mki : mki_of (length (mki_bytes s)) (tag_length s) (srtp s p i) ≡ mki_bytes s
  unfolding srtp
  srtp-mki = mki-parts (ciphered_media s p i) (mki_bytes s) _ (tag_length s) (length-media_tag s g (ciphered_media s p i) i)

  pub srtp-tag : tag_of (tag_length s) (srtp s p i) ≡ media_tag s (ciphered_media s p i) i
  unfolding srtp
  srtp-tag = tag-parts (ciphered_media s p i) (mki_bytes s) _ (tag_length s) (length-media_tag s g (ciphered_media s p i) i)

  pub length-srtp : is_rtp p ≡ true → length (srtp s p i) ≡ length p + length (mki_bytes s) + tag_length s
  unfolding srtp
  length-srtp r =
      let c : List ℕ = ciphered_media s p i in
      length-append (c ++ mki_bytes s) (media_tag s c i)
      ∙ omega (arith, length-append c (mki_bytes s), media-length s i p r, length-media_tag s g c i)

-- and what has these parts is made
pub srtp-back : (s : Session) (b : List ℕ) (i : ℕ) → is_rtp (media_portion s b) ≡ true →
    mki_of (length (mki_bytes s)) (tag_length s) b ≡ mki_bytes s → tag_of (tag_length s) b ≡ media_tag s (media_portion s b) i →
    b ≡ srtp s (ciphered_media s (media_portion s b) i) i
unfolding srtp
srtp-back s b i r m t =
    let a : List ℕ = media_portion s b in
    let l : length (mki_bytes s) + tag_length s ≤ length b =
    omega (arith, portion-length (length (mki_bytes s)) (tag_length s) b, rtp-fits a r, header-least a) in
    rw (media-twice s i a r) (sym (parts_whole (length (mki_bytes s)) (tag_length s) b l) ∙ rw (m, t))
