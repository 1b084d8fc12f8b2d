-- Two examples, under any key file: an empty frame alone, and a packet that has no payload. Assumes nothing.
use Rattle.std.specs.Prelude.{None, Ok, Err}
use Prim.Native.Nat.{ℕ, ◌-◌, ◌≤◌}
use mathlib.Core.Bool.{Bool, true, false, cond}
use mathlib.Core.List.{List, [], ◌∷◌, ◌++◌, append-nil}
use mathlib.Core.Path.{◌≡◌, refl, sym, ap, ap₂, ◌∙◌}
use native.Mathlib.Omega.{arith}
use borrow.Author.Tests.{eq-eqb, not-false}
use lib.Dec.{eqb, leb}
use lib.ListN.{length, take, drop, length-drop}
use lib.Seq.{length-take-le, take-length, drop-length}
use Rattle.octets.specs.BigEndian.{to_bytes}
use Rattle.rtp.specs.Protected.{authenticated_portion}
use Rattle.rtp.specs.Rtp.{is_rtp, header_length, rtp_ssrc}
use Rattle.rtp.proofs.RtpLaws.{header-least, rtp-fits}
use Rattle.transforms.specs.Ciphers.{ciphered}
use Rattle.session.specs.declared.Session.{Session}
use Rattle.session.specs.Packets.{cipher_of, ssrc_of, mki_bytes, ciphered_media}
use Rattle.session.specs.SetUps.{SetUp, listed, session_of}
use Rattle.srtp.specs.Calls.{media_portion, media_index, natural, receive_media_rows, media_opened, receive_media}
use Rattle.srtp.specs.Contexts.{closed_receiver, start_receiver, set_up_receiver}
use Rattle.srtp.specs.Outcomes.{done, settled}
use Rattle.srtp.specs.Refusals.{Judgement, passes, stops, judged}
use Rattle.srtp.specs.declared.Made.{Made}
use Rattle.srtp.specs.declared.Receiver.{Receiver}
use Rattle.srtp.specs.declared.Refusal.TheVariants.{Setup}
use Rattle.srtp.proofs.RowLaws.{none-holds}
use Rattle.desk.specs.Framing.{framed, packets}
use Rattle.desk.specs.Listening.{set_up_under, fresh, receiver_for, received, written, served, start, output}
use Rattle.desk.proofs.Framings.{frame-first}
use Rattle.desk.proofs.ListenerLaws.{short-refused}

-- ---- the first: an empty frame alone writes nothing
empty-written : (key : List ℕ) → served (start key) ([] ∷ []) ≡ []
unfolding received
empty-written key =
    let r = short-refused (receiver_for (start key) []) [] (omega arith) 2048 in
    append-nil (written (received (start key) [])) ∙ ap written r.is

pub empty-frame : (key : List ℕ) → output key (0 ∷ 0 ∷ []) ≡ []
unfolding output framed
empty-frame key =
    let e : packets (0 ∷ 0 ∷ []) ≡ [] ∷ [] = frame-first [] (omega arith) [] in
    either (eqb (length key) 30) (ap (served (start key)) e ∙ empty-written key)
  where
    either : (t : Bool) → served (start key) (packets (0 ∷ 0 ∷ [])) ≡ [] → cond t (served (start key) (packets (0 ∷ 0 ∷ []))) [] ≡ []
    either true h = h
    either false h = refl

-- ---- the second: a packet of 22 bytes that is let in
-- the session of a fresh receiver under a key file of 30 bytes is that of its set-up
module _ (key : List ℕ) (k : length key ≡ 30) (ssrc : ℕ) where
  abbrev u : SetUp
  u = set_up_under key ssrc

  under-listed : listed u ≡ true
  unfolding listed
  under-listed =
      let m : length (take 16 key) ≡ 16 = length-take-le 16 key (omega arith) in
      let s : length (drop 16 key) ≡ 14 = length-drop 16 key ∙ omega arith in
      rw (eq-eqb (length (take 16 key)) 16 m, eq-eqb (length (drop 16 key)) 14 s)

  fresh-session : (fresh key ssrc).session ≡ session_of u
  unfolding fresh set_up_receiver
  fresh-session =
      let made : Made Receiver = record { answer = Ok tt; context = start_receiver u 0 None } in
      let shut : Made Receiver = record { answer = Err Setup; context = closed_receiver } in
      ap (λ (t : Bool). (cond t made shut).context.session) under-listed

  -- its tag is the last 10 bytes, and there is no MKI
  made-portion : (p : List ℕ) → media_portion (session_of u) p ≡ take (length p - 10) p
  unfolding authenticated_portion mki_bytes session_of
  made-portion p = refl

  fresh-portion : (p : List ℕ) → length p ≡ 22 → media_portion (fresh key ssrc).session p ≡ take 12 p
  fresh-portion p n = ap (λ (s : Session). media_portion s p) fresh-session ∙ made-portion p ∙ ap (λ (m : ℕ). take (m - 10) p) n

-- a packet that is all header stays as it is
no_payload : (s : Session) (a : List ℕ) (i : ℕ) → header_length a ≡ length a → ciphered_media s a i ≡ a
unfolding ciphered_media ciphered
no_payload s a i e =
    ap (λ (n : ℕ). take n a ++ ciphered (cipher_of s) s.media (ssrc_of s) i (take n a) (drop n a)) e
    ∙ ap₂ (λ (x y : List ℕ). x ++ ciphered (cipher_of s) s.media (ssrc_of s) i x y) (take-length a) (drop-length a)
    ∙ append-nil a

-- what is known of a packet that is let in
record LetIn (c : Receiver) (p q : List ℕ) : Type 0 where
  rtp : is_rtp (media_portion c.session p) ≡ true
  index : ℕ
  is : q ≡ ciphered_media c.session (media_portion c.session p) index

module _ (c : Receiver) (p : List ℕ) (q : List ℕ) (i : ℕ) (d : Receiver) where
  let-in-by : (room : ℕ) (j : Judgement) → judged (receive_media_rows c p room (media_index c p)) ≡ j
      → settled j (media_opened c p (natural (media_index c p))) ≡ done q i d → LetIn c p q
  let-in-by room passes h e =
      let r = none-holds (receive_media_rows c p room (media_index c p)) h in
      record { rtp = not-false _ r.1.1.0; index = natural (media_index c p); is = cc }
  let-in-by room (stops n) h e = cc

  let-in : (room : ℕ) → receive_media c p room ≡ done q i d → LetIn c p q
  unfolding receive_media
  let-in room e = let-in-by room (judged (receive_media_rows c p room (media_index c p))) refl e

-- its 12 bytes of header are all that is written
module _ (key p : List ℕ) (k : length key ≡ 30) (n : length p ≡ 22) (q : List ℕ) (i : ℕ) (c : Receiver) (e : received (start key) p ≡ done q i c) where
  head-length : length (take 12 p) ≡ 12
  head-length = length-take-le 12 p (omega arith)

  opened : q ≡ take 12 p
  unfolding received
  opened =
      let r : Receiver = fresh key (rtp_ssrc p) in
      let l : LetIn r p q = let-in r p q i c 2048 e in
      let a : media_portion r.session p ≡ take 12 p = fresh-portion key k (rtp_ssrc p) p n in
      let t : is_rtp (take 12 p) ≡ true = ap is_rtp (sym a) ∙ l.rtp in
      let f : header_length (take 12 p) ≤ length (take 12 p) = rtp-fits (take 12 p) t in
      let h : header_length (take 12 p) ≡ length (take 12 p) = omega (arith, head-length, header-least (take 12 p)) in
      l.is ∙ ap (λ (x : List ℕ). ciphered_media r.session x l.index) a ∙ no_payload r.session (take 12 p) l.index h

  one-packet : packets (0 ∷ 22 ∷ p) ≡ p ∷ []
  unfolding framed
  one-packet =
      let w : to_bytes 2 (length p) ++ p ≡ 0 ∷ 22 ∷ p = ap (λ (m : ℕ). to_bytes 2 m ++ p) n in
      ap packets (sym w ∙ sym (append-nil (framed p))) ∙ frame-first p (omega arith) [] ∙ ap (λ (m : ℕ). cond (leb m 2058) (p ∷ []) [] ++ []) n

  one-served : served (start key) (p ∷ []) ≡ framed (take 12 p)
  one-served = append-nil (written (received (start key) p)) ∙ ap written e ∙ ap framed opened

  header-written : output key (0 ∷ 22 ∷ p) ≡ 0 ∷ 12 ∷ take 12 p
  unfolding output framed
  header-written =
      ap (λ (t : Bool). cond t (served (start key) (packets (0 ∷ 22 ∷ p))) []) (eq-eqb (length key) 30 k)
      ∙ ap (served (start key)) one-packet ∙ one-served ∙ ap (λ (m : ℕ). to_bytes 2 m ++ take 12 p) head-length

pub header-alone : (key p : List ℕ) → length key ≡ 30 → length p ≡ 22 → (q : List ℕ) (i : ℕ) (c : Receiver) → received (start key) p ≡ done q i c
    → output key (0 ∷ 22 ∷ p) ≡ 0 ∷ 12 ∷ take 12 p
header-alone = header-written
