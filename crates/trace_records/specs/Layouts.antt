-- The layouts of records and their bodies, big end first. A place past the end reads as 0, and a body fits its layout if the layout ends within it. Assumes nothing.
use Rattle.std.specs.Prelude.{ℕ, ◌+◌, ◌≤◌, Bool, cond, ◌&&◌, List, ◌≡◌, eqb, leb, length, take, drop, get_or, Option, None, Some}
use Rattle.octets.specs.BigEndian.{from_bytes}
use Rattle.transforms.specs.declared.Cipher.{Cipher}
use Rattle.transforms.specs.declared.Cipher.TheVariants.{Null, Aes}
use Rattle.transforms.specs.declared.Integrity.{Integrity}
use Rattle.transforms.specs.declared.Integrity.TheVariants.{HmacSha1, Rccm2}
use Rattle.session.specs.SetUps.{SetUp}
use Rattle.trace_records.specs.declared.setups.Layout.{Layout}

abbrev pub byte_at : (at : ℕ) → List ℕ → ℕ
byte_at at b = get_or b at 0

-- the number of `size` bytes
abbrev pub number_at : (size at : ℕ) → List ℕ → ℕ
number_at size at b = from_bytes (take size (drop at b))

-- a string is length (1) and bytes: the bytes, and the place behind them
abbrev pub string_at : (at : ℕ) → List ℕ → List ℕ
string_at at b = take (byte_at at b) (drop (at + 1) b)

abbrev pub string_end : (at : ℕ) → List ℕ → ℕ
string_end at b = at + 1 + byte_at at b

-- ---- a record: op (1), length of the body (2), body
abbrev pub body_length : List ℕ → ℕ
body_length r = number_at 2 1 r

-- ---- op 1: tag length (1), cipher (1), SSRC (4), master key, master salt and MKI as strings, settings
abbrev pub key_at : ℕ
key_at = 6

unfoldable pub layout_of : List ℕ → Layout
layout_of b =
    let salt_at = string_end key_at b in
    let mki_at = string_end salt_at b in record { salt_at = salt_at; mki_at = mki_at; end = string_end mki_at b }

-- what the code knows of these places
pub record Placed (l : Layout) (b : List ℕ) : Type 0 where
  pub places : l ≡ layout_of b
  pub key : 7 ≤ l.salt_at
  pub salt : l.salt_at + 1 ≤ l.mki_at
  pub mki : l.mki_at + 1 ≤ l.end
  pub short : l.end ≤ 774

abbrev pub cipher_named : ℕ → Option Cipher
cipher_named n = cond (eqb n 0) (Some Null) (cond (eqb n 1) (Some Aes) None)

unfoldable pub set_up_of : Cipher → Integrity → List ℕ → SetUp
set_up_of cipher integrity b =
    record {
      ssrc = number_at 4 2 b;
      master_key = string_at key_at b;
      master_salt = string_at (layout_of b).salt_at b;
      mki = string_at (layout_of b).mki_at b;
      profile = record { cipher = cipher; integrity = integrity; tag_len = byte_at 0 b };
    }

-- a setting is id (1), length (1) and value: whether b is one, with this id and length
abbrev pub is_setting : (id size : ℕ) → List ℕ → Bool
is_setting id size b = eqb (length b) (2 + size) && (eqb (byte_at 0 b) id && eqb (byte_at 1 b) size)

-- settings: id 1, of length 2, is the rate of RFC 4771's integrity transform, and selects it. Without it the transform is RFC 3711's. Anything
-- else does not fit: another id or length, a setting that is cut or stands twice.
abbrev pub settings : List ℕ → Option Integrity
settings b = cond (eqb (length b) 0) (Some HmacSha1) (cond (is_setting 1 2 b) (Some (Rccm2 (number_at 2 2 b))) None)

-- what the settings from a place on select, if the body reaches it
abbrev pub settings_from : (at : ℕ) → List ℕ → Option Integrity
settings_from at b = cond (leb at (length b)) (settings (drop at b)) None

-- what the settings of a body select, if that fits its layout
unfoldable pub sender_settings : List ℕ → Option Integrity
sender_settings b =
    let end = (layout_of b).end in
    cond (leb end (length b)) (settings (drop end b)) None

-- ---- op 2: the same, before the settings rollover counter (4), known (1: 0 or 1) and last sequence number (2)
abbrev pub rollover_of : List ℕ → ℕ
rollover_of b = number_at 4 (layout_of b).end b

abbrev pub known_at : List ℕ → ℕ
known_at b = (layout_of b).end + 4

abbrev pub last_number : (at : ℕ) → List ℕ → Option ℕ
last_number at b = cond (eqb (byte_at at b) 0) None (Some (number_at 2 (at + 1) b))

unfoldable pub receiver_settings : List ℕ → Option Integrity
receiver_settings b =
    let end = (layout_of b).end + 7 in
    cond (leb end (length b) && leb (byte_at (known_at b) b) 1) (settings (drop end b)) None

-- ---- ops 3 to 6: size of the outgoing buffer (2), at most 4,096, and packet
abbrev pub max_room : ℕ
max_room = 4096

abbrev pub room_of : List ℕ → ℕ
room_of b = number_at 2 0 b

abbrev pub packet_of : List ℕ → List ℕ
packet_of b = drop 2 b

abbrev pub call_fits : List ℕ → Bool
call_fits b = leb 2 (length b) && leb (room_of b) max_room
