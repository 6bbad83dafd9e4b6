-- Texts written over a part of a buffer.
use Rattle.std.proofs.Common.{◌≡◌, ℕ, ◌+◌, ◌≤◌, List, ◌++◌, length, take, drop, sym, refl, ap, ◌∙◌, arith, length-append, length-take}
use lib.Seq.{take-append_seam, drop-append_seam, paste}
use borrow.Rule.Slice.PartMut.{put_mid}
use Rattle.std.proofs.lemmas.Slice.{put_mid-paste}
use Rattle.std.proofs.lemmas.List.Edits.{paste_all, paste-paste, length-paste}
use Rattle.nomination.specs.Writing.{over}

-- the part that is written over is as long as the text
pub over_paste : (d : List ℕ) (at : ℕ) (s : List ℕ) → paste d at s (length s) ≡ over d at s
unfolding over
over_paste d at s = paste_all d at s (length s) refl

-- a text copied into its place in a buffer
pub over_mid : (at k : ℕ) (d s : List ℕ) → k ≡ length s → put_mid at k d s ≡ over d at s
over_mid at k d s e = put_mid-paste at k d s s (length s) refl (sym e) refl ∙ over_paste d at s

pub length_over : (d : List ℕ) (at : ℕ) (s : List ℕ) → at + length s ≤ length d → length (over d at s) ≡ length d
length_over d at s h = sym (ap length (over_paste d at s)) ∙ length-paste d at s (length s) h (omega arith)

-- a text behind another is both as one text
pub over_over : (d : List ℕ) (at : ℕ) (s : List ℕ) (n : ℕ) (t : List ℕ) → n ≡ at + length s → at ≤ length d → over (over d at s) n t ≡ over d at (s ++ t)
over_over d at s n t e h =
    let both = paste-paste d at s t (length s) (length t) refl refl h in
    let one = over_paste d at s in
    let two = over_paste (over d at s) n t in
    let all = over_paste d at (s ++ t) in
    let long = length-append s t in
    cc

-- what was written at the start can be read there
pub take_over : (d s : List ℕ) (n : ℕ) → n ≡ length s → take n (over d 0 s) ≡ s
unfolding over
take_over d s n e = rw e (take-append_seam s (drop (0 + length s) d))

-- what was written stands at its place, and what stood behind it still does
pub drop_over : (d : List ℕ) (at : ℕ) (s : List ℕ) → at ≤ length d → drop at (over d at s) ≡ s ++ drop (at + length s) d
unfolding over
drop_over d at s h =
    let long : length (take at d) ≡ at = simp length-take (omega arith) in
    let seam = drop-append_seam (take at d) (s ++ drop (at + length s) d) in
    rw long at seam
