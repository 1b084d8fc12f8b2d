-- `Window::accepting` meets its contract: three ways out by their laws. Bounds go to omega where a test that is off by one is to fail at
-- the number that shows it. Assumes nothing.
use Rattle.std.proofs.Common.{rules, arith}
use Rattle.replay.proofs.WindowReturns.{mark-far, mark-ahead, mark-old}
use Rattle.replay.proofs.window.Window.accepting.Goals as goal

pub returns-then-is_far : goal.returns-then-is_far
returns-then-is_far c = mark-far _ _ _ c.in-Some.is _ (omega arith) (omega arith) c.one-then-is_far.ensures

pub shifted-risen-requires : goal.shifted-risen-requires
shifted-risen-requires c = omega arith

pub returns-then-h-index : goal.returns-then-h-index
returns-then-h-index c = search mark-ahead

pub returns-then-back-ge-LENGTH : goal.returns-then-back-ge-LENGTH
returns-then-back-ge-LENGTH c = search (mark-old, rules)
