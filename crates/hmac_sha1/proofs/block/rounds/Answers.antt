use Rattle.std.proofs.Common.{◌≡◌, ℕ, ◌+◌, ◌-◌, ◌*◌, ap, ◌∙◌, arith, rules}
use Rattle.hmac_sha1.specs.Sha1.{schedule, rounds}
use Rattle.hmac_sha1.proofs.RoundLaws.{rounds-add}
use Rattle.hmac_sha1.proofs.block.rounds.Goals as goal

pub loop-i-init : goal.loop-i-init
unfolding rounds
loop-i-init c = search rules

pub loop-i-preserved : goal.loop-i-preserved
loop-i-preserved c =
    let l = c.loop-i in
    let f = c.args.from in
    λ m n h k r.
    c.four_rounds-v.ensures m n (omega arith) (omega arith) r
    ∙ ap (rounds (schedule m 80) (f + 4 * l.i) 4) (l.invariant m n (omega arith) k r)
    ∙ rounds-add (schedule m 80) f (4 * l.i) 4 c.args.s
    ∙ ap (λ (j : ℕ). rounds (schedule m 80) f j c.args.s) (omega arith)

pub returns : goal.returns
returns c =
    let e : 4 * c.loop-i.i ≡ c.args.to - c.args.from = omega arith in
    rw (← e) c.loop-i.invariant
