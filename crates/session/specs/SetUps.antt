-- RFC 3711 and RFC 4771 in the terms of the set-up alone (01, 'Setting up'; 'one set-up' is one value of `SetUp`). Assumes nothing.
use Rattle.std.specs.Prelude.{ℕ, Bool, ◌&&◌, ◌||◌, List, eqb, leb, length, replicate}
use Rattle.octets.specs.Buffer.{over}
use Rattle.transforms.specs.declared.Cipher.TheVariants.{Null}
use Rattle.transforms.specs.declared.Integrity.{Integrity}
use Rattle.transforms.specs.declared.Integrity.TheVariants.{HmacSha1, Rccm2}
use Rattle.transforms.specs.declared.SessionKeys.{SessionKeys}
use Rattle.transforms.specs.KeyDerivation.{media_label, control_label, session_keys}
use Rattle.session.specs.declared.Profile.{Profile}
use Rattle.session.specs.declared.Settings.{Settings}
use Rattle.session.specs.declared.Session.{Session}
use Rattle.session.specs.declared.SetUp as declared
use Rattle.session.specs.Packets.{srtp, srtcp}

-- what set-up is given, sender and receiver alike
pub record SetUp : Type 0 where
  pub ssrc : ℕ
  pub master_key : List ℕ
  pub master_salt : List ℕ
  pub mki : List ℕ
  pub profile : Profile

-- the same of the struct, whose parts lie behind references
abbrev pub given : declared.SetUp → SetUp
given u =
    record {
      ssrc = u.ssrc;
      master_key = u.master_key.now;
      master_salt = u.master_salt.now;
      mki = u.mki.now;
      profile = u.profile;
    }

abbrev pub settings_of : SetUp → Settings
settings_of u =
    record {
      profile = u.profile;
      ssrc = u.ssrc;
      mki = over u.mki (replicate 4 0);
      mki_len = length u.mki;
    }

-- ---- the list of set-up
-- a media tag of 4 or 10 bytes; with RFC 4771's transform, at a rate from 1 to 65,535, one of 14
abbrev pub tag_listed : Integrity → (tag : ℕ) → Bool
tag_listed HmacSha1 tag = eqb tag 4 || eqb tag 10
tag_listed (Rccm2 rate) tag = (leb 1 rate && leb rate 65535) && eqb tag 14

-- an MKI of 0 to 4 bytes, and such a tag
abbrev pub lengths_listed : (mki : ℕ) → Profile → Bool
lengths_listed mki p = leb mki 4 && tag_listed p.integrity p.tag_len

-- and a master key of 16 bytes and a master salt of 14
abbrev pub set_up_listed : (key salt mki : ℕ) → Profile → Bool
set_up_listed key salt mki p = eqb key 16 && (eqb salt 14 && lengths_listed mki p)

unfoldable pub listed : SetUp → Bool
listed u = set_up_listed (length u.master_key) (length u.master_salt) (length u.mki) u.profile

-- of a context value, whose keys have no other length
abbrev pub settings_listed : Settings → Bool
settings_listed s = lengths_listed s.mki_len s.profile

unfoldable pub session_of : SetUp → Session
session_of u =
    record {
      settings = settings_of u;
      media = session_keys media_label u.master_key u.master_salt;
      control = session_keys control_label u.master_key u.master_salt;
    }

-- ---- the session of the closed contexts: a tag of length 0 is refused by every call
abbrev pub no_keys : SessionKeys
no_keys =
    record {
      round = replicate 44 0;
      tag = record { inner = record { a = 0; b = 0; c = 0; d = 0; e = 0 }; outer = record { a = 0; b = 0; c = 0; d = 0; e = 0 } };
      salt = replicate 14 0;
    }

abbrev pub closed_session : Session
closed_session =
    record {
      settings = record { profile = record { cipher = Null; integrity = HmacSha1; tag_len = 0 }; ssrc = 0; mki = replicate 4 0; mki_len = 0 };
      media = no_keys;
      control = no_keys;
    }

-- ---- what a plain packet becomes at index i
unfoldable pub protect_media : SetUp → (packet : List ℕ) → (index : ℕ) → List ℕ
protect_media u = srtp (session_of u)

unfoldable pub protect_control : SetUp → (e : Bool) → (packet : List ℕ) → (index : ℕ) → List ℕ
protect_control u = srtcp (session_of u)
