-- What the desk writes is what comes of one receiver's calls: the one that lets a first packet in. Assumes nothing.
use Rattle.std.specs.Prelude.{Some}
use Prim.Native.Nat.{ℕ}
use mathlib.Core.Bool.{Bool, cond}
use mathlib.Core.List.{List, [], ◌∷◌, ◌++◌}
use mathlib.Core.Path.{◌≡◌, refl, sym, ap, ◌∙◌}
use borrow.Author.Tests.{eq-eqb}
use lib.ListN.{length, length-replicate}
use Rattle.rtp.specs.Rtp.{rtp_ssrc}
use Rattle.srtp.specs.Calls.{receive_media}
use Rattle.srtp.specs.Outcomes.{Outcome, refused, done, answer_of, next_of}
use Rattle.srtp.specs.declared.Receiver.{Receiver}
use Rattle.demands.specs.Runs.{receiving}
use Rattle.desk.specs.Framing.{packets}
use Rattle.desk.specs.Listening.{fresh, received, after, written, served, start, output}
use Rattle.desk.specs.declared.Listener.{Listener}
use Rattle.desk_stream.specs.Streams.{room, as_media, as_media_all, frames_out, OneStream}

pub room-length : length room ≡ 2048
unfolding room
room-length = length-replicate {A = ℕ} 2048 0

-- ---- a packet at the desk is a call of a receiver
abbrev fixed_on : (key : List ℕ) → Receiver → Listener
fixed_on key r = record { key = key; fixed = Some r }

fixed-call : (key : List ℕ) (r : Receiver) (p : List ℕ) → received (fixed_on key r) p ≡ receiving r (as_media p)
unfolding received
fixed-call key r p = ap (receive_media r p) (sym room-length)

first-call : (key p : List ℕ) → received (start key) p ≡ receiving (fresh key (rtp_ssrc p)) (as_media p)
unfolding received
first-call key p = ap (receive_media (fresh key (rtp_ssrc p)) p) (sym room-length)

-- ---- once the receiver is fixed
abbrev FromFixed : (key : List ℕ) → List (List ℕ) → Type 0
FromFixed key ps = (r : Receiver) → served (fixed_on key r) ps ≡ frames_out r (as_media_all ps)

fixed-next : (key : List ℕ) (ps : List (List ℕ)) → FromFixed key ps → (r : Receiver) (o : Outcome Receiver)
    → written o ++ served (after (fixed_on key r) o) ps ≡ written o ++ frames_out (next_of o r) (as_media_all ps)
fixed-next key ps rest r (refused n) = rest r
fixed-next key ps rest r (done q i c) = ap (λ (t : List ℕ). written (done q i c) ++ t) (rest c)

pub fixed-served : (key : List ℕ) (ps : List (List ℕ)) → FromFixed key ps
fixed-served key [] r = refl
fixed-served key (p ∷ ps) r =
    ap (λ (o : Outcome Receiver). written o ++ served (after (fixed_on key r) o) ps) (fixed-call key r p)
    ∙ fixed-next key ps (fixed-served key ps) r (receiving r (as_media p))

-- ---- until then
module _ (key p : List ℕ) (ps : List (List ℕ)) where
  abbrev r : Receiver
  r = fresh key (rtp_ssrc p)

  abbrev goal : Outcome Receiver → Type 0
  goal o = served (start key) (p ∷ ps) ≡ written o ++ served (after (start key) o) ps

  pub by_first : (o : Outcome Receiver) → receiving r (as_media p) ≡ o → goal o
  by_first o e = ap (λ (x : Outcome Receiver). written x ++ served (after (start key) x) ps) (first-call key p ∙ e)

  one_more : OneStream key ps → (o : Outcome Receiver) → receiving r (as_media p) ≡ o → OneStream key (p ∷ ps)
  one_more h (refused n) e =
      record {
        before = p ∷ h.before;
        stream = h.stream;
        ssrc = h.ssrc;
        parts = ap (λ (qs : List (List ℕ)). p ∷ qs) h.parts;
        all_refused = ((n, ap answer_of e), h.all_refused);
        fixes = h.fixes;
        writes = by_first (refused n) e ∙ h.writes;
      }
  one_more h (done q i c) e =
      record {
        before = [];
        stream = p ∷ ps;
        ssrc = rtp_ssrc p;
        parts = refl;
        all_refused = tt;
        fixes = (refl, i, (length q, ap answer_of e));
        writes =
            by_first (done q i c) e
            ∙ ap (λ (t : List ℕ). written (done q i c) ++ t) (fixed-served key ps c)
            ∙ ap (λ (x : Outcome Receiver). written x ++ frames_out (next_of x r) (as_media_all ps)) (sym e);
      }

-- THE THEOREM: whatever packets come, what the desk writes is what one receiver, set up under the SSRC of the first packet that is let in,
-- opens of the packets from that one on.
pub one-stream : (key : List ℕ) (ps : List (List ℕ)) → OneStream key ps
one-stream key [] = record { before = []; stream = []; ssrc = 0; parts = refl; all_refused = tt; fixes = tt; writes = refl }
one-stream key (p ∷ ps) = one_more key p ps (one-stream key ps) (receiving (fresh key (rtp_ssrc p)) (as_media p)) refl

-- so for the whole desk
pub key-served : (key input : List ℕ) → length key ≡ 30 → output key input ≡ served (start key) (packets input)
unfolding output
key-served key input k = ap (λ (t : Bool). cond t (served (start key) (packets input)) []) (eq-eqb (length key) 30 k)

pub desk-writes : (key input : List ℕ) → length key ≡ 30
    → output key input ≡ frames_out (fresh key (one-stream key (packets input)).ssrc) (as_media_all (one-stream key (packets input)).stream)
desk-writes key input k = key-served key input k ∙ (one-stream key (packets input)).writes

-- ---- packets of one SSRC are all its receiver's, whether it lets a first one in or not
abbrev pub AllOf : (ssrc : ℕ) → List (List ℕ) → Type 0
AllOf ssrc [] = Unit {0}
AllOf ssrc (p ∷ ps) = (rtp_ssrc p ≡ ssrc) × AllOf ssrc ps

module _ (key : List ℕ) (ssrc : ℕ) where
  own-next : (ps : List (List ℕ)) → served (start key) ps ≡ frames_out (fresh key ssrc) (as_media_all ps) → (o : Outcome Receiver)
      → written o ++ served (after (start key) o) ps ≡ written o ++ frames_out (next_of o (fresh key ssrc)) (as_media_all ps)
  own-next ps rest (refused n) = rest
  own-next ps rest (done q i c) =
      ap (λ (t : List ℕ). written (done q i c) ++ t) (fixed-served key ps c)

  pub own-served : (ps : List (List ℕ)) → AllOf ssrc ps → served (start key) ps ≡ frames_out (fresh key ssrc) (as_media_all ps)
  own-served [] h = refl
  own-served (p ∷ ps) h =
      by_first key p ps (receiving (fresh key ssrc) (as_media p)) (ap (λ (n : ℕ). receiving (fresh key n) (as_media p)) h.0)
      ∙ own-next ps (own-served ps h.1) (receiving (fresh key ssrc) (as_media p))
