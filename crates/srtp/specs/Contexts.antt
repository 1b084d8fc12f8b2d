-- Contexts: the closed one of each kind, set-up, and which context values row 1 of the table refuses. Assumes nothing.
use Rattle.std.specs.Prelude.{ℕ, Bool, true, cond, ◌&&◌, leb, Option, None, Some, Ok, Err}
use Rattle.replay.specs.Index.{index_of, max_media_index, max_control_index, max_control_packets, media_start, control_start}
use Rattle.replay.specs.Window.{window_start}
use Rattle.srtp.specs.declared.Refusal.TheVariants.{Setup}
use Rattle.srtp.specs.declared.Sender.{Sender}
use Rattle.srtp.specs.declared.Receiver.{Receiver}
use Rattle.srtp.specs.declared.Made.{Made}
use Rattle.session.specs.SetUps.{SetUp, settings_listed, listed, session_of, closed_session}

-- ---- closed: every call is refused
unfoldable pub closed_sender : Sender
closed_sender = record { session = closed_session; media = media_start; control = control_start }

unfoldable pub closed_receiver : Receiver
closed_receiver = record { session = closed_session; rollover = 0; media = window_start None; control = window_start None }

-- ---- set-up
-- a sender starts with rollover counter 0 and nothing sent
abbrev pub start_sender : SetUp → Sender
start_sender u = record { session = session_of u; media = media_start; control = control_start }

-- with a last sequence number H is its index, with nothing accepted yet; with the rollover counter alone there is no H
abbrev pub start_highest : (rollover : ℕ) → Option ℕ → Option ℕ
start_highest rollover None = None
start_highest rollover (Some q) = Some (index_of rollover q)

abbrev pub start_receiver : SetUp → (rollover : ℕ) → Option ℕ → Receiver
start_receiver u rollover number =
    record {
      session = session_of u;
      rollover = rollover;
      media = window_start (start_highest rollover number);
      control = window_start None;
    }

unfoldable pub set_up_sender : SetUp → Made Sender
set_up_sender u = cond (listed u) (record { answer = Ok tt; context = start_sender u }) (record { answer = Err Setup; context = closed_sender })

unfoldable pub set_up_receiver : SetUp → (rollover : ℕ) → Option ℕ → Made Receiver
set_up_receiver u rollover number =
    cond (listed u) (record { answer = Ok tt; context = start_receiver u rollover number }) (record { answer = Err Setup; context = closed_receiver })

-- ---- row 1: the lengths that set-up lists, and the bounds of the marks. What is absent has no bound.
abbrev pub highest_at_most : (bound : ℕ) → Option ℕ → Bool
highest_at_most n None = true
highest_at_most n (Some h) = leb h n

abbrev pub last_at_most : (bound : ℕ) → Option ℕ → Bool
last_at_most = highest_at_most

unfoldable pub sender_listed : Sender → Bool
sender_listed c =
    settings_listed c.session.settings
    && (last_at_most max_media_index c.media.last && leb c.control.sent max_control_packets)

unfoldable pub receiver_listed : Receiver → Bool
receiver_listed c =
    settings_listed c.session.settings
    && (highest_at_most max_media_index c.media.highest && highest_at_most max_control_index c.control.highest)
