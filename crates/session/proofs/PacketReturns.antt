-- One law for each way out of the functions that write a protected packet: what stands in the buffer is the packet. Assumes nothing.
use mathlib.Core.Bool.{Bool}
use mathlib.Core.List.{List, ◌++◌, append_assoc}
use mathlib.Core.Path.{◌≡◌, refl, sym, ap, ap₂, ◌∙◌}
use Prim.Native.Nat.{ℕ, ◌+◌, ◌-◌, ◌≤◌}
use native.Mathlib.Omega.{arith}
use lib.ListN.{length, take, drop, length-append}
use Rattle.octets.proofs.BigEndianLaws.{length-to_bytes}
use Rattle.octets.proofs.BufferLaws.{take-over, over_at-over, over_at-append, over_at-part}
use Rattle.octets.specs.BigEndian.{to_bytes}
use Rattle.octets.specs.Buffer.{over, over_at}
use Rattle.rtp.specs.Protected.{index_word}
use Rattle.transforms.proofs.TagLaws.{take-control_tag}
use Rattle.transforms.proofs.RccLaws.{take-integrity_tag}
use Rattle.transforms.specs.Tag as tag
use Rattle.transforms.specs.Rcc.{integrity_tag}
use Rattle.session.specs.Packets.{integrity_of, tag_length, mki_bytes, ciphered_media, media_tag, srtp, ciphered_control, control_portion, control_tag, srtcp}
use Rattle.session.specs.declared.Session.{Session}
use Rattle.session.proofs.SessionLaws.{mki-length, length-ciphered_media, length-ciphered_control}

-- ---- put_both: x written over d from at on, y behind it
module _ (at : ℕ) (x y d d' : List ℕ) where
  abbrev written : List ℕ
  written = take at d ++ (d' ++ drop (length d - at) (drop at d))

  pub both-put : at + length x + length y ≤ length d → d' ≡ over x (take (length d - at) (drop at d)) → (w : List ℕ) (n : ℕ)
      → n ≡ at + length x → w ≡ over y (take (length written - n) (drop n written))
      → take n written ++ (w ++ drop (length written - n) (drop n written)) ≡ over_at at (x ++ y) d
  both-put h e w n en f =
      let a : written ≡ over_at at x d = rw e (over_at-part at (length d - at) x d refl) in
      rw f (over_at-part n (length written - n) y written refl)
      ∙ ap₂ (λ (k : ℕ) (l : List ℕ). over_at k y l) en a
      ∙ over_at-append at (length x) x y d refl (omega arith)

-- ---- Settings::finish: what stands before the MKI, the MKI and the tag
finished : (a m t d e f : List ℕ) (n r : ℕ) → n ≡ length a → e ≡ over a d → f ≡ over_at n (m ++ t) e → r ≡ n + length m + length t
    → (r ≡ length (a ++ m ++ t)) × (f ≡ over (a ++ m ++ t) d)
finished a m t d e f n r en ee ef er = (
  omega (arith, length-append (a ++ m) t, length-append a m),
  ef ∙ ap (over_at n (m ++ t)) ee ∙ over_at-over n a (m ++ t) d en ∙ ap (λ (l : List ℕ). over l d) (sym (append_assoc a m t)),
)

-- the first n bytes of the buffer are what was written there
front : (a d e : List ℕ) (n : ℕ) → n ≡ length a → e ≡ over a d → take n e ≡ a
front a d e n en ee = ap₂ take en ee ∙ take-over a d

-- MKI and tag behind n bytes; the whole HMAC is h
module _ (s : Session) (i : ℕ) (p d e f h : List ℕ) (r : ℕ) (four : length s.settings.mki ≡ 4) (mki : s.settings.mki_len ≤ 4) where
  size : length (mki_bytes s) ≡ s.settings.mki_len
  size = mki-length s mki four

  abbrev Finished : ℕ → ℕ → Type 0
  Finished n t =
      (f ≡ over_at n (take s.settings.mki_len s.settings.mki ++ take t h) e) × (r ≡ n + s.settings.mki_len + length (take t h))

  behind : (n : ℕ) (x y : List ℕ) → f ≡ over_at n (mki_bytes s ++ x) e → x ≡ y → f ≡ over_at n (mki_bytes s ++ y) e
  behind n x y ef t = ef ∙ ap (λ (l : List ℕ). over_at n (mki_bytes s ++ l) e) t

  -- ---- Session::protect_media
  pub media-written : 4 ≤ tag_length s → tag_length s ≤ 20 → e ≡ over (ciphered_media s p i) d
      → h ≡ integrity_tag (integrity_of s) 20 s.media (take (length p) e) i
      → Finished (length p) (tag_length s) → (r ≡ length (srtp s p i)) × (f ≡ over (srtp s p i) d)
  unfolding srtp media_tag mki_bytes
  media-written least most ee eh w =
      let a : List ℕ = ciphered_media s p i in
      let n : length p ≡ length a = sym (length-ciphered_media s p i) in
      let x : take (length p) e ≡ a = front a d e (length p) n ee in
      let t : take (tag_length s) h ≡ media_tag s a i =
      ap (take (tag_length s)) (eh ∙ ap (λ (m : List ℕ). integrity_tag (integrity_of s) 20 s.media m i) x)
      ∙ take-integrity_tag (tag_length s) s.media a i least most (integrity_of s) in
      finished a (mki_bytes s) (media_tag s a i) d e f (length p) r n ee (behind (length p) _ _ w.0 t) (w.1 ∙ omega (arith, size, ap length t))

  -- ---- Session::protect_control
  module _ (x : Bool) (g : List ℕ) (word : ℕ) where
    pub control-written : g ≡ over (ciphered_control s x p i) d → word ≡ index_word x i → e ≡ over_at (length p) (to_bytes 4 word) g
        → h ≡ tag.control_tag 20 s.control (take (length p + 4) e) → Finished (length p + 4) 10
        → (r ≡ length (srtcp s x p i)) × (f ≡ over (srtcp s x p i) d)
    unfolding srtcp control_tag control_portion mki_bytes
    control-written eg ew ee eh w =
        let b : List ℕ = ciphered_control s x p i in
        let a : List ℕ = control_portion s x p i in
        let n : length p ≡ length b = sym (length-ciphered_control s x p i) in
        let na : length p + 4 ≡ length a = omega (arith, n, length-append b (to_bytes 4 (index_word x i)), length-to_bytes 4 (index_word x i)) in
        let ea : e ≡ over a d =
        ee ∙ ap₂ (λ (v : ℕ) (l : List ℕ). over_at (length p) (to_bytes 4 v) l) ew eg ∙ over_at-over (length p) b (to_bytes 4 (index_word x i)) d n in
        let y : take (length p + 4) e ≡ a = front a d e (length p + 4) na ea in
        let t : take 10 h ≡ control_tag s a =
        ap (take 10) (eh ∙ ap (tag.control_tag 20 s.control) y) ∙ take-control_tag 10 s.control a 20 (omega arith) in
        finished a (mki_bytes s) (control_tag s a) d e f (length p + 4) r na ea (behind (length p + 4) _ _ w.0 t) (w.1 ∙ omega (arith, size, ap length t))
