-- `segment_copy::segment_on_copy` meets its contract: the copy holds the part of the words that holds the store.
use Prim.Native.Nat.{ℕ, min, ◌≤◌}
use mathlib.Core.Path.{◌≡◌, sym, ap, ◌∙◌}
use native.Mathlib.Omega.{arith}
use borrow.Author.Rules.{rules}
use lib.ListN.{length, take}
use lib.Seq.{length-take-le}
use Rattle.copying.proofs.Copied.{copied_start}
use Rattle.book.specs.Sizes.{most_words}
use Rattle.segment_copy.proofs.Copied.{part_copied}
use Rattle.segment_copy.proofs.segment_on_copy.Goals as goal

pub returns : goal.returns
returns c =
    let a = c.args in
    let k = c.copy_start-many in
    let full : length a.copied.now ≡ most_words = c.requires in
    let part : k.result ≤ length k.new.a = omega (arith, k.ensures.0, k.auto.a) in
    let lent = length-take-le k.result k.new.a part in
    let long : length c.segment-answer.new.s ≡ k.result = omega (arith, c.segment-answer.auto.s, lent) in
    part_copied a.settings a.prints a.s.now _ a.elected.now a.moved.now k.result
    (copied_start a.copied.now a.s.now _ _ k.ensures.0 k.ensures.1
    ∙ ap (λ (n : ℕ). take n a.s.now) full)
    (k.ensures.0 ∙ ap (λ (n : ℕ). min n (length a.s.now)) full) c.segment-answer.result _ _ _ _ long
    c.segment-answer.ensures
