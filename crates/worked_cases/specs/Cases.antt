-- The worked cases of 01's 'Bench lots' that are shown of the definitions: what is given, and what is expected. One list, one claim.
-- Assumes nothing.
use Rattle.std.specs.Prelude.{ℕ, ◌+◌, ◌-◌, ◌*◌, ◌^◌, ◌≡◌, List, [], ◌∷◌, ◌++◌, map, ℤ, pos, neg_ℤ, replicate, Option, None, Some, Result, Ok, Err}
use Rattle.octets.specs.BigEndian.{to_bytes}
use Rattle.rtp.specs.Rtp.{header_of}
use Rattle.rtp.specs.declared.Header.{Header}
use Rattle.transforms.specs.CounterMode.{initial_counter}
use Rattle.replay.specs.Index.{ahead, distance, estimate, placed, next_index, next_media}
use Rattle.replay.specs.Window.{window_length, window_start, window_verdict}
use Rattle.replay.specs.declared.index.OutOfRange.{OutOfRange}
use Rattle.replay.specs.declared.index.OutOfRange.TheVariants as out_of_range
use Rattle.replay.specs.declared.index.NoIndex.{NoIndex}
use Rattle.replay.specs.declared.index.NoIndex.TheVariants as no_index
use Rattle.replay.specs.declared.window.Window.{Window}
use Rattle.replay.specs.declared.window.Replayed.{Replayed}
use Rattle.replay.specs.declared.window.Replayed.TheVariants as replayed

-- what is given: a receiver's H, with nothing accepted yet, or a sender's last index, and the number of a packet; or an RTP packet with
-- so many contributing sources and an extension of so many words; or what a packet's initial counter is made of
pub data Given : Type 0 where
  receiver : (highest number : ℕ) → Given
  sender : (last number : ℕ) → Given
  packet : (sources words : ℕ) → Given
  counter : (salt ssrc index : ℕ) → Given

-- the packet passes, or is refused under a name of 01's table
pub data Answer : Type 0 where
  passes : Answer
  OLD : Answer
  REPEAT : Answer
  SPENT : Answer
  ORDER : Answer
  SHAPE : Answer

-- what is shown: the distance d or the step, the index, and the answer; or the header's length, and the answer; or
-- the sixteen bytes of an IV
pub data Shown : Type 0 where
  at : (d index : ℤ) → Answer → Shown
  header : (bytes : ℕ) → Answer → Shown
  iv : (bytes : List ℕ) → Shown

pub record Case : Type 0 where
  pub number : ℕ
  pub given : Given
  pub expected : Shown

-- ---- the list. A row is: receiver H number, at d index answer; sender last number, at step index answer; packet sources words, header
-- length answer; counter salt SSRC index, iv its four words
abbrev d : ℕ → Given → Shown → Case
d n g e = record { number = n; given = g; expected = e }

abbrev minus : ℕ → ℤ
minus n = neg_ℤ (pos n)

abbrev words : (a b c d : ℕ) → List ℕ
words a b c d = to_bytes 4 a ++ to_bytes 4 b ++ to_bytes 4 c ++ to_bytes 4 d

abbrev pub cases : List Case
cases =
    d 1 (receiver 65541 65530) (at (minus 11) (pos 65530) passes)
    ∷ d 2 (receiver 65530 3) (at (pos 9) (pos 65539) passes)
    ∷ d 3 (receiver 5 65530) (at (minus 11) (minus 6) OLD)
    ∷ d 4 (receiver (2 ^ 48 - 1) 0) (at (pos 1) (pos (2 ^ 48)) SPENT)
    ∷ d 5 (receiver 100 32867) (at (pos 32767) (pos 32867) passes)
    ∷ d 6 (receiver 40000 7232) (at (pos 32768) (pos 72768) passes)
    ∷ d 7 (receiver 40000 7233) (at (minus 32767) (pos 7233) OLD)
    ∷ d 8 (receiver 2000 977) (at (minus 1023) (pos 977) passes)
    ∷ d 8 (receiver 2000 976) (at (minus 1024) (pos 976) OLD)
    ∷ d 9 (sender 65535 0) (at (pos 1) (pos 65536) passes)
    ∷ d 10 (sender 10 32777) (at (pos 32767) (pos 32777) passes)
    ∷ d 10 (sender 10 32778) (at (pos 32768) (pos 32778) ORDER)
    ∷ d 11 (counter 0 1 1) (iv (words 0x00000000 0x00000001 0x00000000 0x00010000))
    ∷ d 12 (packet 2 3) (header 36 passes)
    ∷ []

-- ---- what the definitions show: those that the contracts of crates `replay`, `rtp` and `transforms` cite
abbrev judgement : Result Unit Replayed → Answer
judgement (Ok u) = passes
judgement (Err replayed.Old) = OLD
judgement (Err replayed.Repeat) = REPEAT

abbrev received : Window → Result ℕ OutOfRange → Answer
received w (Ok i) = judgement (window_verdict window_length w i)
received w (Err out_of_range.Old) = OLD
received w (Err out_of_range.Spent) = SPENT

abbrev sent : Result ℕ NoIndex → Answer
sent (Ok i) = passes
sent (Err no_index.Order) = ORDER
sent (Err no_index.Spent) = SPENT

-- version 2 with the extension bit, the sources, and at the end of the extension's first four bytes its count of words; the rest is 0
abbrev bytes_of : (sources words : ℕ) → List ℕ
bytes_of sources words = (0x90 + sources) ∷ replicate (11 + 4 * sources + 2) 0 ++ to_bytes 2 words ++ replicate (4 * words) 0

abbrev read : Option Header → Shown
read (Some h) = header h.len passes
read None = header 0 SHAPE

-- whatever rollover counter the receiver was set up with: with an H it plays no part
abbrev pub shown : (rollover : ℕ) → Given → Shown
shown r (receiver h q) = at (distance h q) (estimate r q (Some h)) (received (window_start (Some h)) (placed (estimate r q (Some h))))
shown r (sender l q) = at (pos (ahead l q)) (pos (next_index (Some l) q)) (sent (next_media (Some l) q))
shown r (packet sources words) = read (header_of (bytes_of sources words))
shown r (counter salt ssrc index) = iv (to_bytes 16 (initial_counter salt ssrc index))

-- ---- the claim about all rows
abbrev pub CasesHold : Type 0
CasesHold = (rollover : ℕ) → map (λ (c : Case). shown rollover c.given) cases ≡ map (λ (c : Case). c.expected) cases
