-- RFC 3711, section 4.2: the authentication tag, HMAC-SHA1 cut to its first n bytes. Assumes nothing.
use Rattle.std.specs.Prelude.{ℕ, ◌/◌, ◌%◌, ◌^◌, List, ◌++◌, take}
use Rattle.octets.specs.BigEndian.{to_bytes}
use Rattle.hmac_sha1.specs.Hmac.{hmac_with}
use Rattle.transforms.specs.declared.SessionKeys.{SessionKeys}

-- 4.2.1: the tag of n bytes over m
unfoldable pub authentication_tag : (n : ℕ) → SessionKeys → List ℕ → List ℕ
authentication_tag n k m = take n (hmac_with k.tag m)

-- 3.3.1: the rollover counter and the sequence number of an index, i = 2^16 * ROC + SEQ
abbrev pub rollover_counter : ℕ → ℕ
rollover_counter index = index / 2 ^ 16

abbrev pub number_of : ℕ → ℕ
number_of index = index % 2 ^ 16

-- 4.2: media: over the packet up to the MKI, header and enciphered payload, and then the rollover counter of the packet's own index
unfoldable pub media_tag : (n : ℕ) → SessionKeys → (authenticated : List ℕ) (index : ℕ) → List ℕ
media_tag n k authenticated index = authentication_tag n k (authenticated ++ to_bytes 4 (rollover_counter index))

-- 4.2: control: over the packet up to the MKI
unfoldable pub control_tag : (n : ℕ) → SessionKeys → (authenticated : List ℕ) → List ℕ
control_tag n k authenticated = authentication_tag n k authenticated
