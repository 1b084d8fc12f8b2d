-- Laws for the ways out of `Window::accepting` that the check does not find by itself: what the code returns there is what the definition
-- says, at the length that windows have. Assumes nothing.
use mathlib.Core.Path.{◌≡◌, sym, ap, ◌∙◌}
use mathlib.Core.List.{List}
use Prim.Native.Nat.{ℕ, ◌+◌, ◌-◌, ◌*◌, ◌^◌, ◌≤◌, ◌<◌, max}
use native.Mathlib.Omega.{arith}
use lib.Bits.{bit_or}
use lib.ListN.{length}
use borrow.Author.Tests.{lt-ltb, le-ltb, le-leb}
use Rattle.std.specs.Prelude.{Some}
use Rattle.replay.specs.Row.{from_words, to_words, word_count}
use Rattle.replay.specs.Window.{window_length, window_mark}
use Rattle.replay.specs.declared.window.Window.{Window}
use Rattle.replay.proofs.BitLaws.{moved_out}
use Rattle.replay.proofs.RowLaws.{Words, from-to, to-from}

module _ (w : Window) (i h : ℕ) (e : w.highest ≡ Some h) where
  pub mark-far : (ws : List ℕ) → h < i → window_length ≤ i - h → ws ≡ to_words (word_count window_length) 1 → record { highest = Some i; words = ws } ≡ window_mark window_length w i
  mark-far ws l m d =
      let o : max h i ≡ i = omega arith in
      rw (d, e, o, lt-ltb h i l, moved_out window_length (from_words w.words) (i - h) m)

  pub mark-ahead : (up ws : List ℕ) → h < i → up ≡ to_words (word_count window_length) (from_words w.words * 2 ^ (i - h)) →
      ws ≡ to_words (word_count window_length) (bit_or (from_words up) (2 ^ 0)) → record { highest = Some i; words = ws } ≡ window_mark window_length w i
  mark-ahead up ws l u d =
      let o : max h i ≡ i = omega arith in
      rw (d, u, from-to (word_count window_length) (from_words w.words * 2 ^ (i - h)), e, o, lt-ltb h i l)

  pub mark-old : Words w.words → length w.words ≡ word_count window_length → i ≤ h → window_length ≤ h - i → w ≡ window_mark window_length w i
  mark-old f n l m =
      let o : max h i ≡ h = omega arith in
      let back : to_words (word_count window_length) (from_words w.words) ≡ w.words = ap (λ (k : ℕ). to_words k (from_words w.words)) (sym n) ∙ to-from w.words f in
      rw (e, o, le-ltb h i l, le-leb (i + window_length) h (omega arith), back)
