use mathlib.Core.Path.{◌≡◌, ap, ◌∙◌}
use Prim.Native.Nat.{◌*◌, ◌/◌, ◌%◌, ◌^◌, ◌<◌}
use native.Mathlib.Omega.{arith}
use borrow.Author.Rules.{rules}
use lib.Bits.{bit_xor, xor_lt}
use Rattle.octets.specs.BigEndian.{from_bytes}
use Rattle.transforms.proofs.CounterLaws.{words, salt-words, initial-words}
use Rattle.transforms.proofs.counter_mode.Keystream.new.Goals as goal

pub returns-clause-counter : goal.returns-clause-counter
returns-clause-counter c =
    let x = c.args in
    let w₀ = c.load-c0 in
    let w₁ = c.load-c1 in
    let w₂ = c.load-c2 in
    let w₃ = c.load-last in
    let low = x.index % 2 ^ 16 in
    let h : bit_xor w₃.result low < 2 ^ 16 = xor_lt 16 w₃.result low (omega arith) (omega arith) in
    let e : c.from.result * 2 ^ 16 % 2 ^ 32 ≡ bit_xor w₃.result low * 2 ^ 16 = omega arith in
    let s = salt-words x.salt w₀.result w₁.result w₂.result w₃.result (search rules) w₀.ensures.bytes w₁.ensures.bytes w₂.ensures.bytes w₃.ensures.bytes in
    ap (words w₀.result (bit_xor w₁.result x.ssrc) (bit_xor w₂.result (x.index / 2 ^ 16))) e
    ∙ initial-words (from_bytes x.salt) w₀.result w₁.result w₂.result w₃.result x.ssrc x.index (omega arith) (omega arith) s
