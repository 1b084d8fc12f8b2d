-- The replay window: RFC 3711, 3.3.2. What is left of a set of accepted indices in a number of n bits beside H, which is kept as a row of
-- words. Assumes nothing.
use Rattle.std.specs.Prelude.{ℕ, ◌-◌, ◌*◌, ◌%◌, ◌^◌, ◌≡◌, Bool, false, cond, not, ◌&&◌, List, [], ◌∷◌, leb, ltb, replicate, Option, None, Some, Result}
use Rattle.std.specs.Int.Bits.{bit_or}
use Rattle.replay.specs.Accepted.{mem, Accepted, too_old, judged, raise}
use Rattle.replay.specs.Row.{bit, from_words, to_words, word_count}
use Rattle.replay.specs.declared.window.Replayed.{Replayed}
use Rattle.replay.specs.declared.window.Window.{Window}
use Rattle.replay.specs.declared.window.Marked.{Marked}

-- the length n of the windows for media and control
abbrev pub window_length : ℕ
window_length = 1024

-- i is marked: bit k of the number is for index H - k. A window with no H has no marks, whatever its bits say
abbrev pub marks : (n : ℕ) → Option ℕ → (bits index : ℕ) → Bool
marks n None bits i = false
marks n (Some h) bits i = (leb i h && not (too_old n (Some h) i)) && bit bits (h - i)

abbrev pub marked : (n : ℕ) → Window → (index : ℕ) → Bool
marked n w i = marks n w.highest (from_words w.words) i

-- what a window of length n means: it has the H of the set a, and its marks are the indices of a that are at most n - 1 behind H
pub record Means (n : ℕ) (w : Window) (a : Accepted) : Type 0 where
  pub highest : w.highest ≡ a.highest
  pub marks_are : (i : ℕ) → marked n w i ≡ (not (too_old n a.highest i) && mem i a.indices)

-- ---- what a receiver does with it. By `mark-means` and `means-verdict` it answers as the set does, at every length
abbrev pub window_start : Option ℕ → Window
window_start h = record { highest = h; words = replicate (word_count window_length) 0 }

abbrev pub window_verdict : (n : ℕ) → Window → (index : ℕ) → Result Unit Replayed
window_verdict n w i = judged (too_old n w.highest i) (marked n w i)

-- the bits after i is accepted: they move up by as much as H rises, within n bits, and the bit for i is set if there is one
abbrev pub bits_after : (n : ℕ) → Option ℕ → (bits index : ℕ) → ℕ
bits_after n None bits i = 1
bits_after n (Some h) bits i =
    cond (ltb h i) (bit_or (bits * 2 ^ (i - h) % 2 ^ n) 1)
    (cond (too_old n (Some h) i) bits
    (bit_or bits (2 ^ (h - i))))

abbrev pub window_mark : (n : ℕ) → Window → (index : ℕ) → Window
window_mark n w i =
    record {
      highest = raise w.highest i;
      words = to_words (word_count n) (bits_after n w.highest (from_words w.words) i);
    }

-- and the verdict on i beside it
abbrev pub window_marked : (n : ℕ) → Window → (index : ℕ) → Marked
window_marked n w i = record { verdict = window_verdict n w i; next = window_mark n w i }

abbrev pub window_mark_all : (n : ℕ) → Window → List ℕ → Window
window_mark_all n w [] = w
window_mark_all n w (i ∷ is) = window_mark_all n (window_mark n w i) is
