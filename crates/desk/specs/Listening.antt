-- The sale desk: what the bytes of a key file and an input give as output. Assumes nothing.
use Rattle.std.specs.Prelude.{ℕ, cond, None, Some, unwrap_or, List, [], ◌∷◌, ◌++◌, eqb, length, take, drop, replicate}
use Rattle.rtp.specs.Rtp.{rtp_ssrc}
use Rattle.transforms.specs.declared.Cipher.TheVariants.{Aes}
use Rattle.transforms.specs.declared.Integrity.TheVariants.{HmacSha1}
use Rattle.session.specs.SetUps.{SetUp}
use Rattle.srtp.specs.Calls.{max_packet_length, receive_media}
use Rattle.srtp.specs.Contexts.{closed_receiver, set_up_receiver}
use Rattle.srtp.specs.Outcomes.{Outcome, refused, done}
use Rattle.srtp.specs.declared.Receiver.{Receiver}
use Rattle.desk.specs.Framing.{framed, packets}
use Rattle.desk.specs.declared.Listener.{Listener}

-- ---- receivers under a key file: 16 bytes of master key, then 14 of master salt
abbrev pub key_file_length : ℕ
key_file_length = 30

-- AES, a tag of 10 bytes and no MKI
abbrev pub set_up_under : (key : List ℕ) → (ssrc : ℕ) → SetUp
set_up_under key ssrc =
    record {
      ssrc = ssrc;
      master_key = take 16 key;
      master_salt = drop 16 key;
      mki = [];
      profile = record { cipher = Aes; integrity = HmacSha1; tag_len = 10 };
    }

-- with rollover counter 0, and no last sequence number
unfoldable pub fresh : (key : List ℕ) → (ssrc : ℕ) → Receiver
fresh key ssrc = (set_up_receiver (set_up_under key ssrc) 0 None).context

-- ---- a packet. Until one is let in, each is tried under its own SSRC by a fresh receiver; the first let in fixes both.
abbrev pub receiver_for : Listener → (packet : List ℕ) → Receiver
receiver_for l p = unwrap_or l.fixed (fresh l.key (rtp_ssrc p))

unfoldable pub received : Listener → (packet : List ℕ) → Outcome Receiver
received l p = receive_media (receiver_for l p) p max_packet_length

abbrev pub after : Listener → Outcome Receiver → Listener
after l (refused n) = l
after l (done p i c) = record { key = l.key; fixed = Some c }

-- an opened packet is written in the same framing; for a refused one nothing is
abbrev pub written : Outcome Receiver → List ℕ
written (refused n) = []
written (done p i c) = framed p

-- ---- packets in order of arrival
abbrev pub listened : Listener → List (List ℕ) → Listener
listened l [] = l
listened l (p ∷ ps) = listened (after l (received l p)) ps

abbrev pub served : Listener → List (List ℕ) → List ℕ
served l [] = []
served l (p ∷ ps) = written (received l p) ++ served (after l (received l p)) ps

-- ---- a key file and an input. A key file that can't be read counts as one of no bytes.
abbrev pub start : (key : List ℕ) → Listener
start key = record { key = key; fixed = None }

-- with the closed receiver fixed nothing is let in
abbrev pub shut : Listener
shut = record { key = replicate key_file_length 0; fixed = Some closed_receiver }

unfoldable pub output : (key input : List ℕ) → List ℕ
output key input = cond (eqb (length key) key_file_length) (served (start key) (packets input)) []
