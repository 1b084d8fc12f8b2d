-- Demand 2, of every run of a sender and of a receiver. Assumes nothing.
use Prim.Native.Nat.{ℕ}
use mathlib.Core.Path.{◌≡◌, sym, ap, subst, ◌∙◌}
use mathlib.Core.List.{List}
use lib.ListN.{length}
use Rattle.std.specs.Prelude.{Option}
use Rattle.octets.specs.BigEndian.{Bytes}
use Rattle.rtp.specs.Protected.{authenticated_portion, tag_of, word_of, e_flag}
use Rattle.session.specs.declared.Session.{Session}
use Rattle.srtp.specs.declared.Receiver.{Receiver}
use Rattle.srtp.specs.declared.Sender.{Sender}
use Rattle.srtp.specs.Outcomes.{done}
use Rattle.session.specs.Packets.{control_tag_length, ssrc_of, media_tag, control_tag, srtcp}
use Rattle.session.specs.SetUps.{SetUp, session_of, protect_media, protect_control}
use Rattle.demands.specs.Runs.{Kind, media, control, Call, receiver_after, receiver_outcome, sender_after, sender_outcome}
use Rattle.demands.specs.Words.{received_e, protected_as, TagFor, Finishes, protected, Plain}
use Rattle.demands.specs.Demands.{Opened, ReceiverDemand2, SenderDemand2}
use Rattle.demands.proofs.SettingLaws.{mki-kept}
use Rattle.demands.proofs.Rfc3711Laws.{media-tag, protect-media, control-tag, protect-control}
use Rattle.demands.proofs.PacketKinds.{sent_as, ReadAs, TaggedAs}
use Rattle.demands.proofs.FinishedLaws.{finished, finishes}
use Rattle.demands.proofs.Sending.{Sends, sends}
use Rattle.demands.proofs.Receiving.{Accepts, accepts}
use Rattle.demands.proofs.ReceiverRuns.{receiver-settings}
use Rattle.demands.proofs.SetUpLaws.{protected-is, receiver-session, ready, sender-session, Ready}

-- ---- sender
module _ (u : SetUp) (earlier : List Call) (c : Call) where
  -- what a call that finishes b at i has tested; its session is the set-up's
  pub tested : (b : List ℕ) (i : ℕ) (s' : Sender) → sender_outcome u earlier c ≡ done b i s' →
      Sends c.kind (sender_after u earlier) c.packet (length c.buffer) b i s'
  tested b i s' e = sends c.kind (sender_after u earlier) c.packet (length c.buffer) b i s' e

  pub under : (b : List ℕ) (i : ℕ) (s' : Sender) → sender_outcome u earlier c ≡ done b i s' → Ready u (sender_after u earlier).session
  under b i s' e = ready u (sender_after u earlier).session (sender-session u earlier) (tested b i s' e).settings

  bytes-are : (b : List ℕ) (i : ℕ) (s' : Sender) → sender_outcome u earlier c ≡ done b i s' → b ≡ protected c.kind u c.packet i
  bytes-are b i s' e =
      (tested b i s' e).bytes ∙ ap (λ (x : Session). sent_as c.kind x c.packet i) (under b i s' e).session-is
      ∙ protected-is c.kind u c.packet i

  plain-is : (b : List ℕ) (i : ℕ) (s' : Sender) → Bytes c.packet → sender_outcome u earlier c ≡ done b i s' →
      Plain c.kind u c.packet i
  unfolding session_of
  plain-is b i s' q e =
      let t = tested b i s' e in
      let r = under b i s' e in
      record {
        ready = r.listed-is;
        not_long = t.not_long;
        shape = t.shape;
        stream = t.stream ∙ ap ssrc_of r.session-is;
        has_index = t.has_index q;
      }

pub sender-demand2 : (u : SetUp) → SenderDemand2 u
sender-demand2 u =
    record {
      ready = λ earlier c i f. let d = finished (sender_outcome u earlier c) i f in (under u earlier c d.0 i d.1 d.2).listed-is;
      finishes = λ earlier c i f.
          let o = sender_outcome u earlier c in
          let d = finished o i f in
          subst (λ (b : List ℕ). Finishes o c.buffer b i) (bytes-are u earlier c d.0 i d.1 d.2)
          (finishes o c.buffer d.0 i d.1 d.2);
      makes = λ earlier c i q f.
          let o = sender_outcome u earlier c in
          let d = finished o i f in
          record {
            plain = plain-is u earlier c d.0 i d.1 q d.2;
            bytes = (finishes o c.buffer d.0 i d.1 d.2).out_is ∙ bytes-are u earlier c d.0 i d.1 d.2;
          };
    }

-- ---- receiver
-- what holds of the session of the set-up, in the set-up's terms
read_is : (k : Kind) (u : SetUp) (b p : List ℕ) (i : ℕ) → ReadAs k (session_of u) b p i → b ≡ protected_as k u b p i
unfolding protect_media protect_control
read_is media u b p i e = e ∙ protect-media u p i
read_is control u b p i e =
    subst (λ (m : List ℕ). b ≡ srtcp (session_of u) (e_flag (word_of (authenticated_portion (length m) control_tag_length b))) p i) (mki-kept u) e
    ∙ protect-control u (received_e u b) p i

tag_is : (k : Kind) (u : SetUp) (b : List ℕ) (i : ℕ) → TaggedAs k (session_of u) b i → TagFor k u b i
unfolding session_of
tag_is media u b i e =
    let n = u.profile.tag_len in
    subst (λ (m : List ℕ). tag_of n b ≡ media_tag (session_of u) (authenticated_portion (length m) n b) i) (mki-kept u) e
    ∙ media-tag u (authenticated_portion (length u.mki) n b) i
tag_is control u b i e =
    subst (λ (m : List ℕ). tag_of control_tag_length b ≡ control_tag (session_of u) (authenticated_portion (length m) control_tag_length b))
    (mki-kept u) e
    ∙ control-tag u (authenticated_portion (length u.mki) control_tag_length b)

module _ (u : SetUp) (rollover : ℕ) (number : Option ℕ) (earlier : List Call) (c : Call) (p : List ℕ) (i : ℕ) (r' : Receiver)
    (e : receiver_outcome u rollover number earlier c ≡ done p i r') where
  abbrev r : Receiver
  r = receiver_after u rollover number earlier

  read : Accepts c.kind r c.packet (length c.buffer) p i r'
  read = accepts c.kind r c.packet (length c.buffer) p i r' e

  receiver-under : Ready u r.session
  receiver-under = ready u r.session (receiver-session u rollover number earlier) (receiver-settings r read.admits.row1)

  opened : Bytes c.packet → Opened c.kind u c.packet p i
  unfolding session_of
  opened q =
      let s = receiver-under.session-is in
      record {
        plain = record {
          ready = receiver-under.listed-is;
          not_long = read.admits.not_long;
          shape = read.admits.shape;
          stream = read.admits.stream ∙ ap ssrc_of s;
          has_index = read.has_index q;
        };
        bytes = read_is c.kind u c.packet p i (subst (λ (x : Session). ReadAs c.kind x c.packet p i) s (read.bytes q));
        tag = tag_is c.kind u c.packet i (subst (λ (x : Session). TaggedAs c.kind x c.packet i) s read.tagged);
      }

pub receiver-demand2 : (u : SetUp) (rollover : ℕ) (number : Option ℕ) → ReceiverDemand2 u rollover number
receiver-demand2 u rollover number =
    record {
      ready = λ earlier c i f.
          let d = finished (receiver_outcome u rollover number earlier c) i f in
          (receiver-under u rollover number earlier c d.0 i d.1 d.2).listed-is;
      opens = λ earlier c i q f.
          let o = receiver_outcome u rollover number earlier c in
          let d = finished o i f in
          subst (λ (p : List ℕ). Opened c.kind u c.packet p i) (sym (finishes o c.buffer d.0 i d.1 d.2).out_is)
          (opened u rollover number earlier c d.0 i d.1 d.2 q);
    }
