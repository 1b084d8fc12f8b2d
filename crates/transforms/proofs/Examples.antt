-- Worked example d11: salt 0, SSRC 1, index 1. (The program `vectors` runs the code, which equals the definitions, on RFC 3711's own.)
-- Assumes nothing.
use mathlib.Core.Path.{◌≡◌, refl}
use Rattle.transforms.specs.CounterMode.{initial_counter}

d11 : initial_counter 0 1 1 ≡ 0x00000000000000010000000000010000
d11 = refl
