-- Laws of runs, sender's and receiver's: a call more. Assumes nothing.
use mathlib.Core.List.{List, [], ◌∷◌, ◌++◌}
use mathlib.Core.Path.{◌≡◌, refl}
use Rattle.srtp.specs.Outcomes.{Outcome, next_of}
use Rattle.demands.specs.Runs.{Call, after}

pub after_last : {S : Type 0} (call : S → Call → Outcome S) (s : S) (cs : List Call) (c : Call) →
    after call s (cs ++ (c ∷ [])) ≡ next_of (call (after call s cs) c) (after call s cs)
after_last call s [] c = refl
after_last call s (x ∷ cs) c = after_last call (next_of (call s x) s) cs c
