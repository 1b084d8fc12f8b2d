-- Without RFC 4771's transform nothing is other than RFC 3711 and 01 have it: what set-up lists, the tag, the index of a received packet
-- and what is within reach. Nothing else of the calls looks at the transform. Assumes nothing.
use Prim.Native.Nat.{ℕ, ◌/◌, ◌^◌}
use mathlib.Core.Path.{◌≡◌}
use mathlib.Core.Bool.{false, ◌&&◌, ◌||◌}
use mathlib.Core.List.{List, ◌++◌}
use lib.Dec.{eqb, leb}
use lib.ListN.{length}
use Rattle.std.specs.Prelude.{Option}
use Rattle.octets.specs.BigEndian.{to_bytes}
use Rattle.rtp.specs.Rtp.{sequence_number}
use Rattle.replay.specs.Index.{estimate}
use Rattle.transforms.specs.KeyDerivation.{media_label}
use Rattle.transforms.specs.declared.Integrity.TheVariants.{HmacSha1}
use Rattle.session.specs.declared.Settings.{Settings}
use Rattle.session.specs.Packets.{integrity_of}
use Rattle.session.specs.SetUps.{SetUp, settings_listed, listed}
use Rattle.srtp.specs.declared.Receiver.{Receiver}
use Rattle.srtp.specs.Calls.{media_portion, media_index}
use Rattle.demands.specs.Runs.{media}
use Rattle.demands.specs.Rfc3711.{tagged, srtp_tag}
use Rattle.demands.specs.Words.{has_whole_index, Reaches}

module _ (u : SetUp) (e : u.profile.integrity ≡ HmacSha1) where
  -- a media tag of 4 or 10 bytes, and of no other length
  pub default-listed : listed u
      ≡ (eqb (length u.master_key) 16
      && (eqb (length u.master_salt) 14 && (leb (length u.mki) 4 && (eqb u.profile.tag_len 4 || eqb u.profile.tag_len 10))))
  unfolding listed
  default-listed = rw e

  -- RFC 3711, 4.2: the tag
  pub default-tag : (a : List ℕ) (i : ℕ) → srtp_tag u a i ≡ tagged u media_label u.profile.tag_len (a ++ to_bytes 4 (i / 2 ^ 16))
  default-tag a i = rw e

  -- 01: at most 1,023 behind and 32,767 ahead, or the started rollover counter
  pub default-reach : (rollover : ℕ) (h : Option ℕ) (i : ℕ) → Reaches (has_whole_index media u i) rollover h i ≡ Reaches false rollover h i
  default-reach rollover h i = rw e

-- row 1 on a context value
pub default-settings : (s : Settings) → s.profile.integrity ≡ HmacSha1 →
    settings_listed s ≡ (leb s.mki_len 4 && (eqb s.profile.tag_len 4 || eqb s.profile.tag_len 10))
default-settings s e = rw e

-- RFC 3711, 3.3.1: the index is estimated
pub default-index : (r : Receiver) (b : List ℕ) → integrity_of r.session ≡ HmacSha1 →
    media_index r b ≡ estimate r.rollover (sequence_number (media_portion r.session b)) r.media.highest
default-index r b e = rw e
