-- `sheet_signatures::put_values` meets its contract: what is put so far are the first values.
use Prim.Native.Nat.{◌+◌}
use mathlib.Core.Path.{refl, ap, ◌∙◌}
use mathlib.Core.List.{[], ◌∷◌}
use native.Mathlib.Omega.{arith}
use lib.ListN.{length}
use lib.Seq.{length-sets}
use Rattle.text_numbers.specs.Steps.{values_of}
use Rattle.sheet_signatures.proofs.Putting.{one_more, values_size, values_all, all_put}
use Rattle.sheet_signatures.proofs.put_values.Goals as goal

pub returns-then-s-eq0 : goal.returns-then-s-eq0
returns-then-s-eq0 c =
    let s = c.args.s in
    let put = all_put c.args.values.now c.args.values.now c.args.at c.args.at [] (values_of s) (values_size s 0 c.if-s-eq0.true) refl (omega arith) (omega arith) in
    record {
      values_after = put.0;
      value = put.1;
    }

pub returns-then-s-eq1 : goal.returns-then-s-eq1
returns-then-s-eq1 c =
    let s = c.args.s in
    let e1 = c.put_number.ensures in
    let put = all_put c.args.values.now c.put_number.new.list c.args.at (c.args.at + 1) (s.a ∷ []) (values_of s) (values_size s 1 c.if-s-eq1.true) e1 refl (omega arith) in
    record {
      values_after = put.0;
      value = put.1;
    }

pub returns-then-s-eq2 : goal.returns-then-s-eq2
returns-then-s-eq2 c =
    let s = c.args.s in
    let e1 = c.put_number.ensures in
    let e2 = one_more c.args.values.now _ _ c.args.at _ (s.a ∷ []) e1 c.put_number-2.ensures in
    let put = all_put c.args.values.now c.put_number-2.new.list c.args.at (c.args.at + 2) (s.a ∷ s.b ∷ []) (values_of s) (values_size s 2 c.if-s-eq2.true) e2 refl (omega arith) in
    record {
      values_after = put.0;
      value = put.1;
    }

pub returns-then-s-eq3 : goal.returns-then-s-eq3
returns-then-s-eq3 c =
    let s = c.args.s in
    let e1 = c.put_number.ensures in
    let e2 = one_more c.args.values.now _ _ c.args.at _ (s.a ∷ []) e1 c.put_number-2.ensures in
    let e3 = one_more c.args.values.now _ _ c.args.at _ (s.a ∷ s.b ∷ []) e2 c.put_number-3.ensures in
    let put = all_put c.args.values.now c.put_number-3.new.list c.args.at (c.args.at + 3) (s.a ∷ s.b ∷ s.c ∷ []) (values_of s) (values_size s 3 c.if-s-eq3.true) e3 refl (omega arith) in
    record {
      values_after = put.0;
      value = put.1;
    }

pub overflow_add-result-then-s-eq4 : goal.overflow_add-result-then-s-eq4
overflow_add-result-then-s-eq4 c = omega (arith, c.requires)

pub returns-then-s-eq4 : goal.returns-then-s-eq4
returns-then-s-eq4 c =
    let s = c.args.s in
    let e1 = c.put_number.ensures in
    let e2 = one_more c.args.values.now _ _ c.args.at _ (s.a ∷ []) e1 c.put_number-2.ensures in
    let e3 = one_more c.args.values.now _ _ c.args.at _ (s.a ∷ s.b ∷ []) e2 c.put_number-3.ensures in
    let e4 = one_more c.args.values.now _ _ c.args.at _ (s.a ∷ s.b ∷ s.c ∷ []) e3 c.put_number-4.ensures in
    let put = all_put c.args.values.now c.put_number-4.new.list c.args.at (c.args.at + 4) (s.a ∷ s.b ∷ s.c ∷ s.d ∷ []) (values_of s) (values_size s 4 c.if-s-eq4.true) e4 refl (omega arith) in
    record {
      values_after = put.0;
      value = put.1;
    }

pub overflow_add-at-4 : goal.overflow_add-at-4
overflow_add-at-4 c = omega (arith, c.requires)

pub overflow_add-result-2 : goal.overflow_add-result-2
overflow_add-result-2 c = omega (arith, c.requires)

pub shape_of-values : goal.shape_of-values
shape_of-values c =
    let s = c.args.s in
    let e1 = c.put_number.ensures in
    let e2 = one_more c.args.values.now _ _ c.args.at _ (s.a ∷ []) e1 c.put_number-2.ensures in
    let e3 = one_more c.args.values.now _ _ c.args.at _ (s.a ∷ s.b ∷ []) e2 c.put_number-3.ensures in
    let e4 = one_more c.args.values.now _ _ c.args.at _ (s.a ∷ s.b ∷ s.c ∷ []) e3 c.put_number-4.ensures in
    let e5 = one_more c.args.values.now _ _ c.args.at _ (s.a ∷ s.b ∷ s.c ∷ s.d ∷ []) e4 c.put_number-5.ensures in
    ap length e5 ∙ length-sets c.args.values.now c.args.at (s.a ∷ s.b ∷ s.c ∷ s.d ∷ s.e ∷ [])

pub returns : goal.returns
returns c =
    let s = c.args.s in
    let e1 = c.put_number.ensures in
    let e2 = one_more c.args.values.now _ _ c.args.at _ (s.a ∷ []) e1 c.put_number-2.ensures in
    let e3 = one_more c.args.values.now _ _ c.args.at _ (s.a ∷ s.b ∷ []) e2 c.put_number-3.ensures in
    let e4 = one_more c.args.values.now _ _ c.args.at _ (s.a ∷ s.b ∷ s.c ∷ []) e3 c.put_number-4.ensures in
    let e5 = one_more c.args.values.now _ _ c.args.at _ (s.a ∷ s.b ∷ s.c ∷ s.d ∷ []) e4 c.put_number-5.ensures in
    let put = all_put c.args.values.now c.put_number-5.new.list c.args.at (c.args.at + 5) (s.a ∷ s.b ∷ s.c ∷ s.d ∷ s.e ∷ []) (values_of s) (values_all s (omega (arith, c.if-s-eq0.false, c.if-s-eq1.false, c.if-s-eq2.false, c.if-s-eq3.false, c.if-s-eq4.false))) e5 refl (omega arith) in
    record {
      values_after = put.0;
      value = put.1;
    }
