-- What the private step of enciphering leaves in the buffer. No public contract cites it. Assumes nothing.
use Rattle.std.specs.Prelude.{ℕ, List, ◌++◌, take, drop}
use Rattle.transforms.specs.Ciphers.{ciphered}
use Rattle.transforms.specs.declared.SessionKeys.{SessionKeys}
use Rattle.session.specs.declared.Settings.{Settings}

-- a packet, media or control: the first n bytes in clear, the rest under the cipher
abbrev pub ciphered_behind : Settings → SessionKeys → (index n : ℕ) → (packet : List ℕ) → List ℕ
ciphered_behind s k i n p = take n p ++ ciphered s.profile.cipher k s.ssrc i (take n p) (drop n p)
