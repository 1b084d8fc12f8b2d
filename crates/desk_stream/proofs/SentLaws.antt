-- Laws of what a sender under a key file makes of a media packet: its SSRC, its length, and that its frame is read again. Assumes nothing.
use Prim.Native.Nat.{ℕ, ◌+◌, ◌≤◌}
use mathlib.Core.Bool.{Bool, true, cond}
use mathlib.Core.List.{List, [], ◌∷◌, ◌++◌, append_assoc}
use mathlib.Core.Path.{◌≡◌, refl, sym, ap, subst, ◌∙◌}
use native.Mathlib.Omega.{arith}
use borrow.Author.Tests.{le-leb}
use lib.ListN.{length, length-append}
use Rattle.octets.specs.BigEndian.{Bytes}
use Rattle.rtp.specs.Rtp.{is_rtp, rtp_ssrc, header, payload}
use Rattle.rtp.proofs.RtpLaws.{ssrc-front, header-whole, header-size}
use Rattle.transforms.specs.KeyDerivation.{media_label}
use Rattle.transforms.specs.Rcc.{integrity_tag}
use Rattle.transforms.proofs.TagLaws.{length-media_tag}
use Rattle.session.specs.Packets.{mki_bytes, ciphered_media, media_tag, srtp}
use Rattle.session.specs.SetUps.{SetUp, session_of, protect_media}
use Rattle.session.specs.declared.Session.{Session}
use Rattle.session.proofs.SessionLaws.{length-ciphered_media}
use Rattle.srtp.specs.Contexts.{set_up_sender}
use Rattle.srtp.specs.Outcomes.{Outcome, refused, done, answer_of, next_of}
use Rattle.srtp.specs.declared.Sender.{Sender}
use Rattle.demands.specs.Rfc3711.{encrypted_by, srtp_tag}
use Rattle.demands.specs.Runs.{Kind, media, control, Call, sending, sender_after, sender_outcome, BytesIn}
use Rattle.demands.specs.Words.{comes_out, Made}
use Rattle.demands.proofs.Rfc3711Laws.{protect-media}
use Rattle.demands.proofs.Demand2.{sender-demand2}
use Rattle.desk.specs.Framing.{packets, frames}
use Rattle.desk.specs.Listening.{set_up_under}
use Rattle.desk.proofs.Framings.{frame-first}
use Rattle.desk_stream.specs.Streams.{if_media, protected_in}
use Rattle.desk_stream.proofs.OneStream.{AllOf}
use Rattle.desk_stream.proofs.RunLaws.{after_last}

-- ---- packets of an SSRC, each short enough for a frame of the desk
abbrev pub Sound : (ssrc : ℕ) → List (List ℕ) → Type 0
Sound ssrc [] = Unit {0}
Sound ssrc (b ∷ bs) = (rtp_ssrc b ≡ ssrc) × (length b ≤ 2058) × Sound ssrc bs

pub sound-own : (ssrc : ℕ) (bs : List (List ℕ)) → Sound ssrc bs → AllOf ssrc bs
sound-own ssrc [] h = tt
sound-own ssrc (b ∷ bs) h = (h.0, sound-own ssrc bs h.2)

pub sound-read : (ssrc : ℕ) (bs : List (List ℕ)) → Sound ssrc bs → packets (frames bs) ≡ bs
sound-read ssrc [] h = refl
sound-read ssrc (b ∷ bs) h =
    let l : length b ≤ 2058 = h.1 in
    frame-first b (omega arith) (frames bs)
    ∙ ap (λ (t : Bool). cond t (b ∷ []) [] ++ packets (frames bs)) (le-leb (length b) 2058 l)
    ∙ ap (λ (ps : List (List ℕ)). b ∷ ps) (sound-read ssrc bs h.2)

module _ (key : List ℕ) (ssrc : ℕ) where
  abbrev u : SetUp
  u = set_up_under key ssrc

  -- ---- a packet that is made
  pub made-ssrc : (p : List ℕ) (i : ℕ) (b : List ℕ) → Made media u p i b → rtp_ssrc b ≡ ssrc
  made-ssrc p i b m =
      let r : is_rtp p ≡ true = m.plain.shape in
      let x : List ℕ = encrypted_by u u.profile.cipher media_label i (payload p) in
      let t : List ℕ = srtp_tag u (header p ++ x) i in
      ap rtp_ssrc (m.bytes ∙ append_assoc (header p ++ x) [] t ∙ append_assoc (header p) x t)
      ∙ ssrc-front (header p) (payload p) (x ++ t) (header-size p r) ∙ ap rtp_ssrc (header-whole p r) ∙ m.plain.stream

  no-mki : mki_bytes (session_of u) ≡ []
  unfolding mki_bytes session_of
  no-mki = refl

  tag-length : (a : List ℕ) (i : ℕ) → length (media_tag (session_of u) a i) ≡ 10
  unfolding media_tag integrity_tag session_of
  tag-length a i = length-media_tag 10 (session_of u).media a i (omega arith)

  packet-length : (p : List ℕ) (i : ℕ) → length (protect_media u p i) ≡ length p + 10
  unfolding protect_media srtp
  packet-length p i =
      let s : Session = session_of u in
      let a : List ℕ = ciphered_media s p i in
      omega (
        arith,
        length-append (a ++ mki_bytes s) (media_tag s a i),
        length-append a (mki_bytes s),
        length-ciphered_media s p i,
        ap length no-mki,
        tag-length a i,
      )

  pub made-length : (p : List ℕ) (i : ℕ) (b : List ℕ) → Made media u p i b → length b ≤ 2058
  made-length p i b m =
      let e : length b ≡ length p + 10 = ap length (m.bytes ∙ sym (protect-media u p i)) ∙ packet-length p i in
      omega (arith, m.plain.not_long)

  -- ---- a sender after some calls of a run
  abbrev pub Reached : Sender → Type 0
  Reached s = (earlier : List Call) × (sender_after u earlier ≡ s)

  pub reached-next : (s : Sender) (c : Call) → Reached s → Reached (next_of (sending s c) s)
  reached-next s c (earlier, e) =
      (earlier ++ (c ∷ []), after_last sending (set_up_sender u).context earlier c ∙ ap (λ (x : Sender). next_of (sending x c) x) e)

  pub sent-made : (s : Sender) → Reached s → (c : Call) → Bytes c.packet → c.kind ≡ media → (b : List ℕ) (i : ℕ) (s' : Sender) →
      sending s c ≡ done b i s' → Made media u c.packet i (comes_out (done b i s') c.buffer)
  sent-made s (earlier, e) c y k b i s' d =
      let o : sender_outcome u earlier c ≡ done b i s' = ap (λ (x : Sender). sending x c) e ∙ d in
      subst (λ (x : Kind). Made x u c.packet i (comes_out (done b i s') c.buffer)) k
      (subst (λ (x : Outcome Sender). Made c.kind u c.packet i (comes_out x c.buffer)) o
      ((sender-demand2 u).makes earlier c i y (length b, ap answer_of o)))

  -- what comes out of its calls
  one-sound : (s : Sender) → Reached s → (c : Call) → Bytes c.packet → (bs : List (List ℕ)) → Sound ssrc bs →
      (k : Kind) → c.kind ≡ k → (o : Outcome Sender) → sending s c ≡ o → Sound ssrc (if_media k o (comes_out o c.buffer) ++ bs)
  one-sound s g c y bs h media k (refused n) e = h
  one-sound s g c y bs h media k (done b i s') e =
      let x : List ℕ = comes_out (done b i s') c.buffer in
      let m : Made media u c.packet i x = sent-made s g c y k b i s' e in
      (made-ssrc c.packet i x m, made-length c.packet i x m, h)
  one-sound s g c y bs h control k o e = h

  pub sent-sound : (s : Sender) → Reached s → (cs : List Call) → BytesIn cs → Sound ssrc (protected_in s cs)
  sent-sound s g [] y = tt
  sent-sound s g (c ∷ cs) y =
      let s' : Sender = next_of (sending s c) s in
      one-sound s g c y.0 (protected_in s' cs) (sent-sound s' (reached-next s c g) cs y.1) c.kind refl (sending s c) refl
