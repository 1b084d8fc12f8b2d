-- Published examples, by computation of the definitions. Assumes nothing.
use Rattle.std.proofs.Common.{◌≡◌, replicate, refl}
use Rattle.octets.specs.BigEndian.{to_bytes}
use Rattle.hmac_sha1.specs.Sha1.{ft, kt, padding, schedule, round, rounds, compress, hash_value, hash_all, digest_of, sha1}
use Rattle.hmac_sha1.specs.Parts.{zero_filled}
use Rattle.hmac_sha1.specs.Hmac.{block_key, hmac}

-- FIPS 180-4's one-block example: "abc"
abc : sha1 (to_bytes 3 0x616263) ≡ to_bytes 20 0xa9993e364706816aba3e25717850c26c9cd0d89d
unfolding ft kt padding schedule round rounds compress hash_value hash_all digest_of sha1
abc = refl

-- RFC 2202, HMAC-SHA1 case 1: "Hi There"
case-1 : hmac (replicate 20 0x0b) (to_bytes 8 0x4869205468657265) ≡ to_bytes 20 0xb617318655057264e28bc0b6fb378c8ef146be00
unfolding ft kt padding zero_filled schedule round rounds compress hash_value hash_all digest_of sha1 block_key hmac
case-1 = refl

-- case 6, whose key is hashed first: "Test Using Larger Than Block-Size Key - Hash Key First"
case-6 : hmac (replicate 80 0xaa) (to_bytes 54 0x54657374205573696e67204c6172676572205468616e20426c6f636b2d53697a65204b6579202d2048617368204b6579204669727374) ≡ to_bytes 20 0xaa4ae5e15272d00e95705637ce8a3b55ed402112
unfolding ft kt padding zero_filled schedule round rounds compress hash_value hash_all digest_of sha1 block_key hmac
case-6 = refl
