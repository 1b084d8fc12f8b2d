-- An input in reads, and the calls of a run. Assumes nothing.
use Rattle.std.specs.Prelude.{ℕ, cond, List, [], ◌∷◌, ◌++◌, take}
use Rattle.desk.specs.Framing.{packets_from, rest_from}
use Rattle.desk.specs.Listening.{listened, served}
use Rattle.desk.specs.Reads.{was_taken, written_length, Serves}
use Rattle.desk.specs.declared.Desk.{Desk}
use Rattle.desk.specs.declared.Listener.{Listener}
use Rattle.desk.specs.declared.Served.{Served}

-- ---- reads one after the other: any lists of bytes, empty ones too
abbrev pub joined : (reads : List (List ℕ)) → List ℕ
joined [] = []
joined (r ∷ rs) = r ++ joined rs

-- the packets that each read completes, where f stands of a frame already
abbrev pub packets_by_read : (begun : List ℕ) → (reads : List (List ℕ)) → List (List ℕ)
packets_by_read f [] = []
packets_by_read f (r ∷ rs) = packets_from f r ++ packets_by_read (rest_from f r) rs

-- and what each writes
abbrev pub written_by_read : Listener → (begun : List ℕ) → (reads : List (List ℕ)) → List ℕ
written_by_read l f [] = []
written_by_read l f (r ∷ rs) = served l (packets_from f r) ++ written_by_read (listened l (packets_from f r)) (rest_from f r) rs

-- ---- calls of `Desk::serve`: the read and the buffer that it was given, what it gave back, and the buffer after it
pub record Call : Type 0 where
  pub input : List ℕ
  pub before : List ℕ
  pub result : Served
  pub out : List ℕ

-- each meets its contract, on the desk that the one before gave back
abbrev pub Run : Desk → List Call → Type 0
Run d [] = Unit
Run d (c ∷ cs) = Serves d c.input c.before c.result c.out × Run c.result.next cs

-- the input that was taken, and what was written
abbrev pub taken : List Call → List ℕ
taken [] = []
taken (c ∷ cs) = cond (was_taken c.result) c.input [] ++ taken cs

abbrev pub written : List Call → List ℕ
written [] = []
written (c ∷ cs) = take (written_length c.result) c.out ++ written cs
