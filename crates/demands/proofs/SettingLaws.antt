-- Laws of settings: what a set-up that is not refused says of its session, and the lengths that go with one. Assumes nothing.
use Prim.Native.Nat.{ℕ}
use native.Mathlib.Omega.{arith}
use mathlib.Core.Path.{◌≡◌}
use mathlib.Core.Bool.{Bool, true, ◌&&◌}
use mathlib.Core.List.{List}
use lib.Dec.{eqb}
use lib.ListN.{length, replicate}
use Rattle.std.proofs.lemmas.Bool.{and_parts}
use Rattle.octets.proofs.BufferLaws.{take-over}
use Rattle.transforms.proofs.TagLaws as tag
use Rattle.transforms.proofs.RccLaws.{length-integrity_tag}
use Rattle.session.proofs.SessionLaws.{settings-listed}
use Rattle.session.specs.declared.Session.{Session}
use Rattle.session.specs.Packets.{control_tag_length, integrity_of, tag_length, mki_bytes, media_tag, control_tag}
use Rattle.session.specs.SetUps.{SetUp, settings_listed, listed, session_of}

-- a context keeps the MKI of its set-up
pub mki-kept : (u : SetUp) → mki_bytes (session_of u) ≡ u.mki
unfolding mki_bytes session_of
mki-kept u = take-over u.mki (replicate 4 0)

pub session-listed : (u : SetUp) → listed u ≡ true → settings_listed (session_of u).settings ≡ true
unfolding listed session_of
session-listed u g =
    let s : Bool = settings_listed (session_of u).settings in
    let a = and_parts (eqb (length u.master_key) 16) (eqb (length u.master_salt) 14 && s) g in
    (and_parts (eqb (length u.master_salt) 14) s a.1).1

-- ---- lengths of tags
module _ (s : Session) where
  pub length-media_tag : settings_listed s.settings ≡ true → (a : List ℕ) (i : ℕ) → length (media_tag s a i) ≡ tag_length s
  unfolding media_tag
  length-media_tag g a i =
      let l = settings-listed s.settings g in
      length-integrity_tag (tag_length s) s.media a i l.least (omega (arith, l.most)) (integrity_of s)

  pub length-control_tag : (a : List ℕ) → length (control_tag s a) ≡ control_tag_length
  unfolding control_tag
  length-control_tag a = tag.length-control_tag control_tag_length s.control a (omega arith)
