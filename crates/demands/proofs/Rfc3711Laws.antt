-- What set-up and session keys make of a packet is RFC 3711's, its media tag RFC 4771's, in their own terms. Assumes nothing.
use Prim.Native.Nat.{ℕ, ◌-◌, ◌/◌, ◌%◌, ◌^◌}
use mathlib.Core.Path.{◌≡◌, refl, sym, ap, ◌∙◌}
use mathlib.Core.Bool.{Bool, true, false, cond}
use mathlib.Core.List.{List, ◌++◌}
use lib.ListN.{length, take, drop}
use Rattle.octets.specs.BigEndian.{to_bytes}
use Rattle.octets.specs.Xor.{xors}
use Rattle.rtp.specs.Rtp.{header, payload}
use Rattle.transforms.specs.KeyDerivation.{media_label, control_label, session_keys}
use Rattle.transforms.specs.Ciphers.{ciphered}
use Rattle.transforms.specs.Tag as tag
use Rattle.transforms.specs.Rcc.{carries_counter, tag_with, integrity_tag}
use Rattle.transforms.specs.declared.Cipher.{Cipher}
use Rattle.transforms.specs.declared.Cipher.TheVariants.{Aes, Null}
use Rattle.transforms.proofs.CipherLaws.{null-text, ciphered-from-start}
use Rattle.transforms.proofs.DerivationLaws.{derived-session-keys}
use Rattle.session.specs.Packets.{control_tag_length, ciphered_media, media_tag, srtp, ciphered_control, control_portion, control_tag, srtcp}
use Rattle.session.specs.SetUps.{SetUp, session_of, protect_media, protect_control}
use Rattle.demands.specs.Rfc3711.{encrypted_by, tagged, srtp_mac, srtp_tag, srtp_packet, srtcp_tag, srtcp_packet}
use Rattle.demands.proofs.SettingLaws.{mki-kept}

module _ (u : SetUp) where
  encrypted-is : (c : Cipher) (label i : ℕ) (clear text : List ℕ) →
      ciphered c (session_keys label u.master_key u.master_salt) u.ssrc i clear text ≡ encrypted_by u c label i text
  unfolding ciphered
  encrypted-is Aes label i clear text =
      ap (xors text) ((derived-session-keys label u.master_key u.master_salt).keystream u.ssrc i clear (length text))
  encrypted-is Null label i clear text =
      let k = session_keys label u.master_key u.master_salt in
      sym (ciphered-from-start Null k u.ssrc i clear text) ∙ null-text k u.ssrc i clear 0 text

  tagged_is : (label n : ℕ) (m : List ℕ) → tag.authentication_tag n (session_keys label u.master_key u.master_salt) m ≡ tagged u label n m
  tagged_is label n m = (derived-session-keys label u.master_key u.master_salt).tag n m

  -- ---- media
  pub media-tag : (a : List ℕ) (i : ℕ) → media_tag (session_of u) a i ≡ srtp_tag u a i
  unfolding media_tag integrity_tag tag.media_tag session_of
  media-tag a i = go (carries_counter u.profile.integrity (i % 2 ^ 16))
    where
      n : ℕ
      n = u.profile.tag_len

      -- whether the tag carries the rollover counter or not
      go : (b : Bool) → tag_with b n (session_keys media_label u.master_key u.master_salt) a i
          ≡ cond b (to_bytes 4 (i / 2 ^ 16) ++ srtp_mac u (n - 4) a i) (srtp_mac u n a i)
      go true = ap (λ (x : List ℕ). to_bytes 4 (i / 2 ^ 16) ++ x) (tagged_is media_label (n - 4) (a ++ to_bytes 4 (i / 2 ^ 16)))
      go false = tagged_is media_label n (a ++ to_bytes 4 (i / 2 ^ 16))

  media-text : (p : List ℕ) (i : ℕ) → ciphered_media (session_of u) p i ≡ header p ++ encrypted_by u u.profile.cipher media_label i (payload p)
  unfolding ciphered_media session_of
  media-text p i = ap (λ (x : List ℕ). header p ++ x) (encrypted-is u.profile.cipher media_label i (header p) (payload p))

  pub protect-media : (p : List ℕ) (i : ℕ) → protect_media u p i ≡ srtp_packet u p i
  unfolding protect_media srtp
  protect-media p i = rw (mki-kept u, media-text p i, media-tag)

  -- ---- control
  pub control-tag : (a : List ℕ) → control_tag (session_of u) a ≡ srtcp_tag u a
  unfolding control_tag tag.control_tag session_of
  control-tag a = tagged_is control_label control_tag_length a

  control-text : (e : Bool) (p : List ℕ) (i : ℕ) →
      ciphered_control (session_of u) e p i ≡ take 8 p ++ cond e (encrypted_by u u.profile.cipher control_label i (drop 8 p)) (drop 8 p)
  unfolding ciphered_control session_of
  control-text true p i = ap (λ (x : List ℕ). take 8 p ++ x) (encrypted-is u.profile.cipher control_label i (take 8 p) (drop 8 p))
  control-text false p i = refl

  pub protect-control : (e : Bool) (p : List ℕ) (i : ℕ) → protect_control u e p i ≡ srtcp_packet u e p i
  unfolding protect_control srtcp control_portion
  protect-control e p i = rw (mki-kept u, control-text e p i, control-tag)
