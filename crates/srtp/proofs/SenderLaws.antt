-- The rows of sending by the steps of the code. Assumes nothing.
use mathlib.Core.Path.{◌≡◌, refl, sym, ◌∙◌}
use native.Mathlib.Omega.{arith}
use Rattle.std.specs.Prelude.{◌+◌, ◌≤◌, ℕ, true, leb, ltb, length, Option, Some, Ok, Err, List, [], ◌∷◌}
use Rattle.std.proofs.lemmas.Bool.{lt-ltb, le-ltb, le-leb, lt-leb, eq-eqb}
use Rattle.rtp.proofs.RtcpLaws.{rtcp-read, rtcp-unread}
use Rattle.rtp.proofs.RtpLaws.{rtp-read, rtp-unread}
use Rattle.rtp.specs.Rtcp.{rtcp_header_of, rtcp_ssrc}
use Rattle.rtp.specs.Rtp.{header_of, rtp_ssrc}
use Rattle.rtp.specs.declared.Header.{Header}
use Rattle.rtp.specs.declared.RtcpHeader.{RtcpHeader}
use Rattle.replay.specs.Index.{max_media_index, max_control_packets, next_index, out_of_order, next_media, next_control}
use Rattle.replay.specs.declared.index.NoIndex.{NoIndex}
use Rattle.replay.specs.declared.index.NoIndex.TheVariants.{Order, Spent}
use Rattle.replay.proofs.IndexLaws.{MediaAs, media-as, ControlAs, control-as}
use Rattle.session.proofs.SessionLaws.{mki-length}
use Rattle.srtp.specs.Contexts.{sender_listed}
use Rattle.srtp.specs.Refusals.{Row, row, passes, stops, judged, of_no_index}
use Rattle.srtp.specs.SenderSteps.{media_as, control_as, media_verdict, control_verdict}
use Rattle.srtp.specs.declared.Refusal.TheVariants as refusal
use Rattle.srtp.specs.declared.Sender.{Sender}
use Rattle.srtp.proofs.ListedLaws.{sender_lengths}

-- ---- media
abbrev need : Sender → List ℕ → ℕ
need c p = length p + c.session.settings.mki_len + c.session.settings.profile.tag_len

abbrev order_rows : Option ℕ → (number : ℕ) → List Row
order_rows l q = row (out_of_order l q) refusal.Order ∷ row (ltb max_media_index (next_index l q)) refusal.Spent ∷ []

-- the rows that are left where the ones before ROOM pass
pub media_left : (c : Sender) (p : List ℕ) (room : ℕ) {h : Header} → sender_listed c ≡ true → length p ≤ 2048 → Some h ≡ header_of p
    → h.ssrc ≡ c.session.settings.ssrc → length c.session.settings.mki ≡ 4
    → media_verdict c p room
    ≡ media_as h.len (next_index c.media.last h.sequence_number)
    (judged (row (ltb room (need c p)) refusal.Room ∷ order_rows c.media.last h.sequence_number))
unfolding media_verdict
media_left c p room {h} e l f s four =
    let read = rtp-read f refl in
    let size = mki-length c.session (sender_lengths c _ refl e).mki four in
    let ssrc : rtp_ssrc p ≡ c.session.settings.ssrc = sym read.ssrc ∙ s in
    rw (e, le-ltb 2048 (length p) l, read.rtp, eq-eqb _ _ ssrc, size, read.number, read.size)

-- why a step finds no index, and what it finds
pub no_media_index : (l : Option ℕ) (q : ℕ) (e : NoIndex) → next_media l q ≡ Err e → judged (order_rows l q) ≡ stops (of_no_index e)
no_media_index l q Order h = let w : MediaAs l q (Err Order) = rw h at (media-as l q) in rw w
no_media_index l q Spent h = let w : MediaAs l q (Err Spent) = rw h at (media-as l q) in rw (w.0, lt-ltb max_media_index _ w.1)

pub media_index_found : (l : Option ℕ) (q i : ℕ) → next_media l q ≡ Ok i → (judged (order_rows l q) ≡ passes) × (next_index l q ≡ i)
media_index_found l q i h =
    let w : MediaAs l q (Ok i) = rw h at (media-as l q) in
    (rw (w.0, w.1, le-ltb max_media_index i w.2), w.1)

pub ruleset media_steps = (sender_lengths, rtp-read, rtp-unread)

-- ---- control
abbrev control_need : Sender → List ℕ → ℕ
control_need c p = length p + 4 + c.session.settings.mki_len + 10

abbrev spent_rows : (sent : ℕ) → List Row
spent_rows n = row (leb max_control_packets n) refusal.Spent ∷ []

pub control_left : (c : Sender) (p : List ℕ) (room : ℕ) {h : RtcpHeader} → sender_listed c ≡ true → length p ≤ 2048 → Some h ≡ rtcp_header_of p
    → h.ssrc ≡ c.session.settings.ssrc → length c.session.settings.mki ≡ 4
    → control_verdict c p room ≡ control_as c.control (judged (row (ltb room (control_need c p)) refusal.Room ∷ spent_rows c.control.sent))
unfolding control_verdict
control_left c p room {h} e l f s four =
    let read = rtcp-read f refl in
    let size = mki-length c.session (sender_lengths c _ refl e).mki four in
    let ssrc : rtcp_ssrc p ≡ c.session.settings.ssrc = sym read.ssrc ∙ s in
    rw (e, le-ltb 2048 (length p) l, read.rtcp, eq-eqb _ _ ssrc, size)

pub no_control_index : (sent : ℕ) (e : NoIndex) → next_control sent ≡ Err e → judged (spent_rows sent) ≡ stops (of_no_index e)
no_control_index sent Order h = absurd (rw h at (control-as sent))
no_control_index sent Spent h = let w : ControlAs sent (Err Spent) = rw h at (control-as sent) in rw (le-leb max_control_packets sent w)

pub control_index_found : (sent i : ℕ) → next_control sent ≡ Ok i → (judged (spent_rows sent) ≡ passes) × (sent ≡ i)
control_index_found sent i h =
    let w : ControlAs sent (Ok i) = rw h at (control-as sent) in
    (rw (lt-leb max_control_packets sent (omega arith)), w.0)

pub ruleset control_steps = (sender_lengths, rtcp-read, rtcp-unread)
