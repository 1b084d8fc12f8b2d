-- The ways out of the desk's functions. Assumes nothing.
use Rattle.std.specs.Prelude.{Option, None, Some}
use Prim.Native.Nat.{ℕ, ◌+◌, ◌-◌, ◌^◌, ◌≤◌, ◌<◌}
use mathlib.Core.Bool.{true, true≢false}
use mathlib.Core.List.{List, [], ◌++◌, append_assoc, append-nil}
use mathlib.Core.Path.{◌≡◌, refl, sym, ap, subst, ◌∙◌}
use native.Mathlib.Omega.{arith}
use lib.ListN.{length, take, drop, length-append, length-drop, length-take, drop_of_length-le, take-append-drop}
use Rattle.octets.specs.Buffer.{over, over_at}
use Rattle.octets.proofs.BufferLaws.{over_at-part, over_at-over}
use Rattle.desk.specs.Framing.{packets_from, rest_from}
use Rattle.desk.specs.Listening.{received, listened, served}
use Rattle.desk.specs.Listening.{written as bytes_of}
use Rattle.desk.specs.Reads.{Standing, found_in, Takes, Receives, Turns, Writes, Stands, takes_read, Serves}
use Rattle.desk.specs.declared.Desk.{Desk}
use Rattle.desk.specs.declared.Listener.{Listener}
use Rattle.desk.specs.declared.framing.Taken.{Taken}
use Rattle.desk.specs.declared.serving.Serving.{Serving}
use Rattle.desk.proofs.ReaderLaws.{stands}
use Rattle.desk.proofs.RoomLaws.{read_length}

-- ---- Serving::turn
-- what is written fits the part that was lent
receives-fits : (l : Listener) (p d : List ℕ) (next : Listener) (len : ℕ) (x : List ℕ) → Receives l p d next len x → length x ≡ length d → len ≤ length d
unfolding over
receives-fits l p d next len x s n =
    let w : List ℕ = bytes_of (received l p) in
    omega (arith, s.len, ap length s.written, length-append w (drop (length w) d))

pub receives-within : (l : Listener) (p out : List ℕ) (at m : ℕ) (next : Listener) (len : ℕ) (x : List ℕ) → at ≤ length out → m ≡ length out - at
    → Receives l p (take m (drop at out)) next len x → length x ≡ length (take m (drop at out)) → at + len ≤ length out
receives-within l p out at m next len x h e s n =
    omega (arith, receives-fits l p (take m (drop at out)) next len x s n, length-take m (drop at out), length-drop at out)

module _ (s : Serving) (f input out : List ℕ) (t : Taken) (kept : List ℕ) (k : Takes f (drop s.at input) input t kept) (cut : t.next.got ≤ 1 + t.next.len) where
  -- the desk with what was taken, and the output's length
  abbrev with_taken : Listener → (len : ℕ) → Serving
  with_taken l len =
      record { desk = record { frame = record { reader = t.next; kept = kept }; listener = l }; at = t.at; len = len; cut = cut }

  abbrev left : List (List ℕ)
  left = packets_from k.begun (drop t.at input)

  passed : (x : Option ℕ) → t.found ≡ x → packets_from f (drop s.at input) ≡ found_in kept x ++ left
  passed x e = k.passes.packets ∙ ap (λ (y : Option ℕ). found_in kept y ++ left) e

  pub turns-none : t.found ≡ None → Turns s f (with_taken s.desk.listener s.len) input out out
  unfolding over over_at
  turns-none e =
      record {
        begun = k.begun;
        wrote = [];
        holds = k.holds;
        output = ap (served s.desk.listener) (passed None e);
        listener = ap (listened s.desk.listener) (passed None e);
        rest = k.passes.rest;
        written = sym (take-append-drop s.len out);
        end = omega arith;
      }

  pub turns-packet : (n : ℕ) → t.found ≡ Some n → (next : Listener) (len : ℕ) (x : List ℕ) (m : ℕ) → m ≡ length out - s.len
      → Receives s.desk.listener (take n kept) (take m (drop s.len out)) next len x
      → Turns s f (with_taken next (s.len + len)) input out (take s.len out ++ (x ++ drop m (drop s.len out)))
  turns-packet n e next len x m em v =
      let l : Listener = s.desk.listener in
      let w : List ℕ = bytes_of (received l (take n kept)) in
      record {
        begun = k.begun;
        wrote = w;
        holds = k.holds;
        output = ap (served l) (passed (Some n) e) ∙ ap (λ (c : Listener). w ++ served c left) (sym v.next);
        listener = ap (listened l) (passed (Some n) e) ∙ ap (λ (c : Listener). listened c left) (sym v.next);
        rest = k.passes.rest;
        written = ap (λ (y : List ℕ). take s.len out ++ (y ++ drop m (drop s.len out))) v.written ∙ over_at-part s.len m w out em;
        end = ap (λ (y : ℕ). s.len + y) v.len;
      }

-- ---- Desk::serve
over-more : (n : ℕ) (xs ys d : List ℕ) → n ≡ length xs → over_at n ys (over_at 0 xs d) ≡ over_at 0 (xs ++ ys) d
unfolding over_at
over-more n xs ys d e = over_at-over n xs ys d e

-- from the desk d on, with nothing of the input taken
module _ (d : Desk) (cut : d.frame.reader.got ≤ 1 + d.frame.reader.len) (input before : List ℕ) where
  abbrev s : Serving
  s = record { desk = d; at = 0; len = 0; cut = cut }

  pub turns-nothing : (f : List ℕ) → Stands d f → Turns s f s input before before
  unfolding over over_at
  turns-nothing f h =
      record {
        begun = f;
        wrote = [];
        holds = h;
        output = refl;
        listener = refl;
        rest = refl;
        written = refl;
        end = refl;
      }

  module _ (t : Serving) (out : List ℕ) where
    module _ (f : List ℕ) (v : Turns s f t input before out) where
      abbrev now : List ℕ
      now = served d.listener (packets_from f input)

      abbrev later : List ℕ
      later = served t.desk.listener (packets_from v.begun (drop t.at input))

      -- one turn more
      pub turns_more : (u : Serving) (out' : List ℕ) → Turns t v.begun u input out out' → Turns s f u input before out'
      turns_more u out' w =
          let n : t.len ≡ length v.wrote = omega (arith, v.end) in
          record {
            begun = w.begun;
            wrote = v.wrote ++ w.wrote;
            holds = w.holds;
            output = v.output ∙ ap (λ (y : List ℕ). v.wrote ++ y) w.output
                ∙ sym (append_assoc v.wrote w.wrote (served u.desk.listener (packets_from w.begun (drop u.at input))));
            listener = v.listener ∙ w.listener;
            rest = v.rest ∙ w.rest;
            written = w.written ∙ ap (over_at t.len w.wrote) v.written ∙ over-more t.len v.wrote w.wrote before n;
            end = omega (arith, w.end, length-append v.wrote w.wrote);
          }

      -- what is written is no longer than what the read gives
      len-within : Stands d f → t.len ≤ 2059 + length input
      len-within h =
          omega (arith, v.end, ap length v.output, length-append v.wrote later, read_length d.listener d.frame.reader d.frame.kept f input h)

      -- the input's end
      writes-all : length input ≤ t.at → Writes d f input before t.len t.desk out
      unfolding over_at
      writes-all h =
          let e : drop t.at input ≡ [] = drop_of_length-le input h in
          let o : now ≡ v.wrote =
          v.output ∙ ap (λ (y : List ℕ). v.wrote ++ served t.desk.listener (packets_from v.begun y)) e ∙ append-nil v.wrote in
          record {
            size = omega (arith, v.end, ap length o);
            written = v.written ∙ ap (λ (y : List ℕ). over y before) (sym o);
            listener = sym (v.listener ∙ ap (λ (y : List ℕ). listened t.desk.listener (packets_from v.begun y)) e);
            holds = subst (Stands t.desk) (sym (v.rest ∙ ap (rest_from v.begun) e)) v.holds;
          }

    -- whatever stands at the desk, some bytes of a frame do
    module _ (u : d.frame.reader.len < 2 ^ 16) (room : 2058 ≤ length d.frame.kept) (turns : (f : List ℕ) → Stands d f → Turns s f t input before out) where
      standing : Standing d.frame.reader d.frame.kept
      standing = stands d.frame.reader d.frame.kept cut u room

      -- so the buffer has room for a packet more,
      pub len-bound : t.len ≤ 2059 + length input
      len-bound = len-within standing.begun (turns standing.begun standing.holds) standing.holds

      -- and at the input's end the read is served
      pub serves : takes_read d.frame.reader (length input) (length before) ≡ true → length input ≤ t.at → t.len ≤ length out
          → Serves d input before (record { written = Some t.len; next = t.desk }) out
      serves e h l =
          record {
            taken = sym e;
            declines = λ h. absurd (true≢false h);
            standing = λ _. standing;
            writes = λ _ f g. writes-all f (turns f g) h;
            fits = l;
          }
