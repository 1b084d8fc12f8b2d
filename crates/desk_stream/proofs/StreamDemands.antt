-- The receiver whose calls the desk's output comes of is one that demands 2 and 3 speak of. Assumes nothing.
use Rattle.std.specs.Prelude.{None}
use Prim.Native.Nat.{ℕ}
use mathlib.Core.List.{List}
use mathlib.Core.Path.{◌≡◌, refl}
use native.Mathlib.Omega.{arith}
use Rattle.replay.specs.Accepted.{Once}
use Rattle.srtp.specs.Contexts.{set_up_receiver}
use Rattle.demands.specs.Runs.{media}
use Rattle.demands.specs.Words.{accepted_as}
use Rattle.demands.specs.Demands.{ReceiverDemand2, ReceiverDemand3}
use Rattle.demands.proofs.Demand2.{receiver-demand2}
use Rattle.demands.proofs.Demand3.{receiver-demand3}
use Rattle.desk.specs.Listening.{set_up_under, fresh}
use Rattle.desk_stream.specs.Streams.{as_media_all}

module _ (key : List ℕ) (ssrc : ℕ) where
  -- it is one as set-up gives it
  pub fresh-is : fresh key ssrc ≡ (set_up_receiver (set_up_under key ssrc) 0 None).context
  unfolding fresh
  fresh-is = refl

  -- so whatever it opens is made under the key file and its SSRC,
  pub stream-demand2 : ReceiverDemand2 (set_up_under key ssrc) 0 None
  stream-demand2 = receiver-demand2 (set_up_under key ssrc) 0 None

  -- and of the packets that the desk gives it
  pub stream-demand3 : (ps : List (List ℕ)) → ReceiverDemand3 (set_up_under key ssrc) 0 None (as_media_all ps)
  stream-demand3 ps = receiver-demand3 (set_up_under key ssrc) 0 None (omega arith) tt (as_media_all ps)

  -- no index is accepted twice
  pub stream-once : (ps : List (List ℕ)) → Once (accepted_as (set_up_under key ssrc) 0 None media (as_media_all ps))
  stream-once ps = (stream-demand3 ps).once media
