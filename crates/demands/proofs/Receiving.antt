-- What a receiving call that accepts a packet has tested, and what it leaves. Assumes nothing.
use Prim.Native.Nat.{ℕ, ◌-◌, ◌%◌, ◌^◌, ◌≤◌, ◌<◌}
use native.Mathlib.Omega.{arith}
use mathlib.Core.Path.{◌≡◌, refl, ap, ◌∙◌}
use mathlib.Core.Bool.{Bool, true, false, cond, true≢false}
use mathlib.Core.List.{List}
use lib.IntN.{ℤ, pos, negsuc}
use lib.ListN.{length}
use borrow.Author.Tests.{ltb-false, not-false, eqb-true}
use Rattle.std.specs.Prelude.{Result, Ok, Err}
use Rattle.octets.specs.BigEndian.{Bytes}
use Rattle.octets.proofs.EqualLaws.{same_true}
use Rattle.rtp.specs.Rtp.{is_rtp, sequence_number}
use Rattle.rtp.specs.Rtcp.{is_rtcp}
use Rattle.rtp.specs.Protected.{mki_of, tag_of, rtcp_portion, word_of, e_flag}
use Rattle.rtp.proofs.RtpLaws.{number_lt}
use Rattle.rtp.proofs.TrailerLaws.{portion-bytes}
use Rattle.rtp.proofs.IndexWordLaws.{index-most}
use Rattle.transforms.specs.Rcc.{carries_counter, carried_counter}
use Rattle.replay.specs.Index.{max_media_index, index_of, estimate}
use Rattle.replay.specs.Window.{window_length, window_verdict}
use Rattle.replay.specs.declared.window.Window.{Window}
use Rattle.replay.specs.declared.window.Replayed.{Replayed}
use Rattle.replay.specs.declared.window.Replayed.TheVariants as replayed
use Rattle.replay.proofs.IndexLaws.{estimate-number}
use Rattle.session.specs.declared.Session.{Session}
use Rattle.srtp.specs.declared.Receiver.{Receiver}
use Rattle.srtp.specs.Outcomes.{done}
use Rattle.session.specs.Packets.{control_tag_length, integrity_of, tag_length, mki_bytes, ciphered_media, media_tag, ciphered_control, control_tag}
use Rattle.srtp.specs.Calls.{too_high, is_old, is_repeat, old, natural, media_portion, media_place, media_index, receive_media_rows, media_opened, receive_media, control_received, control_index, receive_control_rows, control_opened, receive_control}
use Rattle.demands.specs.Runs.{Kind, media, control, receive}
use Rattle.demands.specs.Words.{HasIndex}
use Rattle.demands.proofs.RowLaws.{NoneHolds, none, ◌also◌, rows-done}
use Rattle.demands.proofs.MediaLaws.{media-length, media-rtp, media-number, media-ssrc, srtp-back}
use Rattle.demands.proofs.ControlLaws.{control-length, control-rtcp, control-ssrc, srtcp-back}
use Rattle.demands.proofs.PacketKinds.{ReadAs, TaggedAs, window_of, marked, Admits}

-- the call on r accepts b at i, p comes out, and r' is left
pub record Accepts (k : Kind) (r : Receiver) (b : List ℕ) (room : ℕ) (p : List ℕ) (i : ℕ) (r' : Receiver) : Type 0 where
  pub admits : Admits k r p i room
  pub new : window_verdict window_length (window_of k r) i ≡ Ok tt
  pub tagged : TaggedAs k r.session b i
  pub has_index : Bytes b → HasIndex k p i
  pub bytes : Bytes b → ReadAs k r.session b p i
  pub next : r' ≡ marked k r i

is-new : (v : Result Unit Replayed) → is_old v ≡ false → is_repeat v ≡ false → v ≡ Ok tt
is-new (Ok u) a b = refl
is-new (Err replayed.Old) a b = absurd (true≢false a)
is-new (Err replayed.Repeat) a b = absurd (true≢false b)

-- an index that passes SPENT, OLD and REPEAT
pub record Passes (w : Window) (k : ℤ) : Type 0 where
  pub new : window_verdict window_length w (natural k) ≡ Ok tt
  pub below : natural k ≤ max_media_index
  pub at : k ≡ pos (natural k)

index-passes : (w : Window) (k : ℤ) → too_high k ≡ false → old w k ≡ false → is_repeat (window_verdict window_length w (natural k)) ≡ false →
    Passes w k
index-passes w (pos i) a b c = record { new = is-new _ b c; below = ltb-false _ _ a; at = refl }
index-passes w (negsuc j) a b c = absurd (true≢false b)

-- an index that is found has the packet's number, read or estimated
place-number : (r : Receiver) (q : ℕ) (t : List ℕ) (i : ℕ) → q < 65536 → media_place r q t ≡ pos i → q ≡ i % 65536
place-number r q t i l = go (carries_counter (integrity_of r.session) q)
  where
    go : (b : Bool) → cond b (pos (index_of (carried_counter t) q)) (estimate r.rollover q r.media.highest) ≡ pos i → q ≡ i % 65536
    go true e = let z : index_of (carried_counter t) q ≡ i = cc in omega arith
    go false e = estimate-number r.rollover q r.media.highest i l e

media-accepts : (r : Receiver) (b : List ℕ) (room : ℕ) (k : ℤ) (p : List ℕ) (i : ℕ) (r' : Receiver) → media_index r b ≡ k →
    NoneHolds (receive_media_rows r b room k) → media_opened r b (natural k) ≡ done p i r' → Accepts media r b room p i r'
media-accepts r b room k p i r' n
    (setup also long also shape also stream also short also key also spent also old-is also repeat also forged also none) e =
    let s : Session = r.session in
    let a : List ℕ = media_portion s b in
    let e₁ : natural k ≡ i = cc in
    let e₂ : p ≡ ciphered_media s a i = cc in
    let g : is_rtp a ≡ true = not-false _ shape in
    let mki : mki_of (length (mki_bytes s)) (tag_length s) b ≡ mki_bytes s = same_true _ _ (not-false _ key) in
    let tag : tag_of (tag_length s) b ≡ media_tag s a (natural k) = same_true _ _ (not-false _ forged) in
    let x = index-passes r.media k spent old-is repeat in
    record {
      admits = record {
        row1 = not-false _ setup;
        not_long = rw (e₂, media-length s i a g) (ltb-false _ _ long);
        shape = rw e₂ (media-rtp s i a g);
        stream = rw e₂ (media-ssrc s i a g ∙ eqb-true _ _ (not-false _ stream));
        fits = rw (e₂, media-length s i a g) (ltb-false _ _ short);
        below = rw e₁ at x.below;
      };
      new = rw e₁ at x.new;
      tagged = rw e₁ at tag;
      has_index = λ q.
          let l = number_lt a (portion-bytes _ _ b q) in (
            rw e₂ (media-number s i a g ∙ place-number r (sequence_number a) (tag_of (tag_length s) b) i l (n ∙ x.at ∙ ap pos e₁)),
            rw e₁ at x.below,
          );
      bytes = λ q. rw e₂ (srtp-back s b i g mki (rw e₁ at tag));
      next = cc;
    }

control-accepts : (r : Receiver) (b : List ℕ) (room k : ℕ) (p : List ℕ) (i : ℕ) (r' : Receiver) → control_index r.session b ≡ k →
    NoneHolds (receive_control_rows r b room k) → control_opened r b k ≡ done p i r' → Accepts control r b room p i r'
control-accepts r b room k p i r' n
    (setup also long also shape also stream also short also key also old-is also repeat also forged also none) e =
    let s : Session = r.session in
    let a : List ℕ = control_received s b in
    let c : List ℕ = rtcp_portion a in
    let x : Bool = e_flag (word_of a) in
    let e₁ : k ≡ i = cc in
    let e₂ : p ≡ ciphered_control s x c i = cc in
    let g : is_rtcp c ≡ true = not-false _ shape in
    let mki : mki_of (length (mki_bytes s)) control_tag_length b ≡ mki_bytes s = same_true _ _ (not-false _ key) in
    let tag : tag_of control_tag_length b ≡ control_tag s a = same_true _ _ (not-false _ forged) in
    let new : window_verdict window_length r.control k ≡ Ok tt = is-new _ old-is repeat in
    let most : i ≤ 2 ^ 31 - 1 = rw (n, e₁) at (index-most (word_of a)) in
    record {
      admits = record {
        row1 = not-false _ setup;
        not_long = rw (e₂, control-length s i x c g) (ltb-false _ _ long);
        shape = rw e₂ (control-rtcp s i x c g);
        stream = rw e₂ (control-ssrc s i x c g ∙ eqb-true _ _ (not-false _ stream));
        fits = rw (e₂, control-length s i x c g) (ltb-false _ _ short);
        below = most;
      };
      new = rw e₁ at new;
      tagged = tag;
      has_index = λ q. most;
      bytes = λ q. rw e₂ (rw (n, e₁) at (srtcp-back s b q a refl g mki tag));
      next = cc;
    }

pub accepts : (k : Kind) (r : Receiver) (b : List ℕ) (room : ℕ) (p : List ℕ) (i : ℕ) (r' : Receiver) → receive k r b room ≡ done p i r' →
    Accepts k r b room p i r'
unfolding receive_media receive_control
accepts media r b room p i r' e =
    let k = media_index r b in
    let d = rows-done (receive_media_rows r b room k) (media_opened r b (natural k)) p i r' e in
    media-accepts r b room k p i r' refl d.0 d.1
accepts control r b room p i r' e =
    let k = control_index r.session b in
    let d = rows-done (receive_control_rows r b room k) (control_opened r b k) p i r' e in
    control-accepts r b room k p i r' refl d.0 d.1
