-- RFC 4771, sections 2 and 3: the tag of a media packet under the integrity transform that carries the rollover counter (mode RCCm2).
-- Assumes nothing.
use Rattle.std.specs.Prelude.{ℕ, ◌-◌, ◌%◌, Bool, true, false, not, ◌&&◌, List, ◌++◌, eqb, take}
use Rattle.octets.specs.BigEndian.{to_bytes, from_bytes}
use Rattle.transforms.specs.Tag.{rollover_counter, number_of, media_tag}
use Rattle.transforms.specs.declared.SessionKeys.{SessionKeys}
use Rattle.transforms.specs.declared.Integrity.{Integrity}
use Rattle.transforms.specs.declared.Integrity.TheVariants.{HmacSha1, Rccm2}

-- 2: whether a packet with this sequence number carries the counter: "the SEQ is equal to 0 modulo some non-zero integer constant R"
abbrev pub carries_counter : Integrity → (number : ℕ) → Bool
carries_counter HmacSha1 number = false
carries_counter (Rccm2 rate) number = not (eqb rate 0) && eqb (number % rate) 0

-- 2: a tag of n bytes that carries it, TAG = ROC_sender || MAC_tr, where MAC_tr is the MAC of n - 4 bytes; 3: in mode 2 a packet that does not
-- carry it has the tag of RFC 3711. Either MAC is over the same bytes.
abbrev pub tag_with : (carries : Bool) → (n : ℕ) → SessionKeys → (authenticated : List ℕ) (index : ℕ) → List ℕ
tag_with true n k a i = to_bytes 4 (rollover_counter i) ++ media_tag (n - 4) k a i
tag_with false n k a i = media_tag n k a i

-- the tag of the packet with this index, whose sequence number is the index's
unfoldable pub integrity_tag : Integrity → (n : ℕ) → SessionKeys → (authenticated : List ℕ) (index : ℕ) → List ℕ
integrity_tag t n k a i = tag_with (carries_counter t (number_of i)) n k a i

-- 2: "the receiver extracts ROC_sender from the TAG"
abbrev pub carried_counter : (tag : List ℕ) → ℕ
carried_counter t = from_bytes (take 4 t)
