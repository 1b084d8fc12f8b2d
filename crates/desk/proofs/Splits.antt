-- Packets and output of an input are the same however it is split into reads. Assumes nothing.
use Prim.Native.Nat.{ℕ}
use mathlib.Core.List.{List, [], ◌∷◌, ◌++◌, append_assoc}
use mathlib.Core.Path.{◌≡◌, refl, sym, ap, ◌∙◌}
use borrow.Author.Tests.{eq-eqb}
use lib.ListN.{length}
use Rattle.desk.specs.Framing.{completed, begun, packets_from, rest_from, packets}
use Rattle.desk.specs.Listening.{received, after, written, listened, served, start, output}
use Rattle.desk.specs.Runs.{joined, packets_by_read, written_by_read}
use Rattle.desk.specs.declared.Listener.{Listener}

pub packets-append : (f a b : List ℕ) → packets_from f (a ++ b) ≡ packets_from f a ++ packets_from (rest_from f a) b
packets-append f [] b = refl
packets-append f (x ∷ a) b =
    let g = begun (f ++ (x ∷ [])) in
    ap (λ (t : List (List ℕ)). completed (f ++ (x ∷ [])) ++ t) (packets-append g a b)
    ∙ sym (append_assoc (completed (f ++ (x ∷ []))) (packets_from g a) (packets_from (rest_from g a) b))

pub rest-append : (f a b : List ℕ) → rest_from f (a ++ b) ≡ rest_from (rest_from f a) b
rest-append f [] b = refl
rest-append f (x ∷ a) b = rest-append (begun (f ++ (x ∷ []))) a b

pub listened-append : (l : Listener) (ps qs : List (List ℕ)) → listened l (ps ++ qs) ≡ listened (listened l ps) qs
listened-append l [] qs = refl
listened-append l (p ∷ ps) qs = listened-append (after l (received l p)) ps qs

pub served-append : (l : Listener) (ps qs : List (List ℕ)) → served l (ps ++ qs) ≡ served l ps ++ served (listened l ps) qs
served-append l [] qs = refl
served-append l (p ∷ ps) qs =
    let m = after l (received l p) in
    ap (λ (t : List ℕ). written (received l p) ++ t) (served-append m ps qs)
    ∙ sym (append_assoc (written (received l p)) (served m ps) (served (listened m ps) qs))

-- ---- from any state between two reads
pub packets-joined : (f : List ℕ) (reads : List (List ℕ)) → packets_by_read f reads ≡ packets_from f (joined reads)
packets-joined f [] = refl
packets-joined f (r ∷ rs) =
    ap (λ (t : List (List ℕ)). packets_from f r ++ t) (packets-joined (rest_from f r) rs) ∙ sym (packets-append f r (joined rs))

pub served-more : (l : Listener) (f a b : List ℕ)
    → served l (packets_from f a) ++ served (listened l (packets_from f a)) (packets_from (rest_from f a) b) ≡ served l (packets_from f (a ++ b))
served-more l f a b = sym (ap (served l) (packets-append f a b) ∙ served-append l (packets_from f a) (packets_from (rest_from f a) b))

written-joined : (l : Listener) (f : List ℕ) (reads : List (List ℕ)) → written_by_read l f reads ≡ served l (packets_from f (joined reads))
written-joined l f [] = refl
written-joined l f (r ∷ rs) =
    ap (λ (t : List ℕ). served l (packets_from f r) ++ t) (written-joined (listened l (packets_from f r)) (rest_from f r) rs)
    ∙ served-more l f r (joined rs)

-- For every input and every way to split it into reads the packets are those of the definition,
pub same-packets : (input : List ℕ) (reads : List (List ℕ)) → joined reads ≡ input → packets_by_read [] reads ≡ packets input
same-packets input reads e = packets-joined [] reads ∙ ap packets e

-- and what the reads write, put together, is what the definition gives for the whole input under a key file.
pub same-output : (key input : List ℕ) (reads : List (List ℕ)) → length key ≡ 30 → joined reads ≡ input
    → written_by_read (start key) [] reads ≡ output key input
unfolding output
same-output key input reads k e =
    rw (eq-eqb (length key) 30 k) (written-joined (start key) [] reads ∙ ap (λ (b : List ℕ). served (start key) (packets b)) e)
