-- The desk between reads, and what its code promises of a read. Assumes nothing.
use Rattle.std.specs.Prelude.{ℕ, ◌+◌, ◌-◌, ◌%◌, ◌≤◌, Bool, true, false, cond, ◌&&◌, Option, None, Some, is_some, unwrap_or, List, [], ◌∷◌, ◌++◌, ◌≡◌, eqb, leb, length, take, drop}
use Rattle.octets.specs.Buffer.{over, over_at}
use Rattle.desk.specs.Framing.{max_frame_length, announced, completed, begun, packets_from, rest_from, Cut}
use Rattle.desk.specs.Listening.{key_file_length, start, shut, received, after, listened, served}
use Rattle.desk.specs.Listening.{written as bytes_of}
use Rattle.desk.specs.declared.Desk.{Desk}
use Rattle.desk.specs.declared.Listener.{Listener}
use Rattle.desk.specs.declared.Served.{Served}
use Rattle.desk.specs.declared.Start.{Start}
use Rattle.desk.specs.declared.framing.Reader.{Reader}
use Rattle.desk.specs.declared.framing.Taken.{Taken}
use Rattle.desk.specs.declared.serving.Serving.{Serving}

-- ---- the reader
-- reader and kept bytes are those of the bytes f of a frame: their number, the length that they tell, and the packet's bytes if it is not too long
pub record Gathers (r : Reader) (kept f : List ℕ) : Type 0 where
  pub got : r.got ≡ length f
  pub high : length f ≡ 1 → r.len % 256 ≡ announced f
  pub len : 2 ≤ length f → r.len ≡ announced f
  pub bytes : announced f ≤ max_frame_length → take (length f - 2) kept ≡ drop 2 f

-- and the frame is not whole
pub record Holds (r : Reader) (kept f : List ℕ) : Type 0 where
  pub gathers : Gathers r kept f
  pub cut : Cut f

-- some bytes of a frame
pub record Standing (r : Reader) (kept : List ℕ) : Type 0 where
  pub begun : List ℕ
  pub holds : Holds r kept begun

-- from f and the input b, the reader came to g and the input c, and found the packets ps on the way
pub record Passes (f b : List ℕ) (ps : List (List ℕ)) (g c : List ℕ) : Type 0 where
  pub packets : packets_from f b ≡ ps ++ packets_from g c
  pub rest : rest_from f b ≡ rest_from g c

-- from f and the input b, the reader came to more bytes of the frame, none beyond its end, and the input c
pub record Steps (f b : List ℕ) (r : Reader) (kept c : List ℕ) : Type 0 where
  pub more : List ℕ
  pub gathers : Gathers r kept more
  pub within : length more ≤ 2 + announced more
  pub passes : Passes f b (completed more) (begun more) c

-- the packet that was found, the first of the kept bytes
abbrev pub found_in : List ℕ → Option ℕ → List (List ℕ)
found_in kept (Some n) = take n kept ∷ []
found_in kept None = []

abbrev pub found_length : Option ℕ → ℕ
found_length (Some n) = n
found_length None = 0

pub record Takes (f b : List ℕ) (input : List ℕ) (t : Taken) (kept : List ℕ) : Type 0 where
  pub begun : List ℕ
  pub holds : Holds t.next kept begun
  pub passes : Passes f b (found_in kept t.found) begun (drop t.at input)

-- ---- a packet: its output at the start of the buffer, n bytes, and the listener m after it
pub record Receives (l : Listener) (p before : List ℕ) (m : Listener) (n : ℕ) (out : List ℕ) : Type 0 where
  pub next : m ≡ after l (received l p)
  pub len : n ≡ length (bytes_of (received l p))
  pub written : out ≡ over (bytes_of (received l p)) before

-- ---- the desk
-- the bytes f of a frame stand at the desk
abbrev pub Stands : Desk → (f : List ℕ) → Type 0
Stands d f = Holds d.frame.reader d.frame.kept f

-- ---- the bytes of an input from s.at on: the desk came to that of t and to the bytes from t.at on, and wrote some from place s.len on
pub record Turns (s : Serving) (f : List ℕ) (t : Serving) (input before out : List ℕ) : Type 0 where
  pub begun : List ℕ
  pub wrote : List ℕ
  pub holds : Stands t.desk begun
  pub output : served s.desk.listener (packets_from f (drop s.at input)) ≡ wrote ++ served t.desk.listener (packets_from begun (drop t.at input))
  pub listener : listened s.desk.listener (packets_from f (drop s.at input)) ≡ listened t.desk.listener (packets_from begun (drop t.at input))
  pub rest : rest_from f (drop s.at input) ≡ rest_from begun (drop t.at input)
  pub written : out ≡ over_at s.len wrote before
  pub end : t.len ≡ s.len + length wrote

-- ---- a read, where f stands of a frame: its output at the start of the buffer, and what listener, reader and kept bytes come to
pub record Writes (d : Desk) (f input before : List ℕ) (len : ℕ) (next : Desk) (out : List ℕ) : Type 0 where
  pub size : len ≡ length (served d.listener (packets_from f input))
  pub written : out ≡ over (served d.listener (packets_from f input)) before
  pub listener : next.listener ≡ listened d.listener (packets_from f input)
  pub holds : Stands next (rest_from f input)

-- the desk of a key file; it is shut where the file has another length
pub record Starts (key : List ℕ) (s : Start) : Type 0 where
  pub ready : s.ready ≡ eqb (length key) key_file_length
  pub listener : s.desk.listener ≡ cond s.ready (start key) shut
  pub stands : Stands s.desk []

-- that of some key file
pub record StartsUnder (s : Start) : Type 0 where
  pub key : List ℕ
  pub starts : Starts key s

-- A read is taken where the buffer has room for whatever it may give. A desk at which a whole frame stands takes none: the code gives no such one.
abbrev pub NotWhole : Desk → Type 0
NotWhole d = d.frame.reader.got ≤ 1 + d.frame.reader.len

abbrev pub spare_length : ℕ
spare_length = 4110

abbrev pub takes_read : Reader → (input_length room : ℕ) → Bool
takes_read r n room = leb r.got (1 + r.len) && leb (n + spare_length) room

-- whether it was taken, and the length of its output
abbrev pub was_taken : Served → Bool
was_taken s = is_some s.written

abbrev pub written_length : Served → ℕ
written_length s = unwrap_or s.written 0

-- a read that is not taken changes nothing
pub record Declines (d : Desk) (before : List ℕ) (s : Served) (out : List ℕ) : Type 0 where
  pub next : s.next ≡ d
  pub len : written_length s ≡ 0
  pub written : out ≡ before

pub record Serves (d : Desk) (input before : List ℕ) (s : Served) (out : List ℕ) : Type 0 where
  pub taken : was_taken s ≡ takes_read d.frame.reader (length input) (length before)
  pub declines : was_taken s ≡ false → Declines d before s out
  pub standing : was_taken s ≡ true → Standing d.frame.reader d.frame.kept
  pub writes : was_taken s ≡ true → (f : List ℕ) → Stands d f → Writes d f input before (written_length s) s.next out
  pub fits : written_length s ≤ length out
