-- The filling of a template meets its contracts. What stands below a symbol nests one less deep: the measure falls there.
use Prim.Native.Nat.{ℕ, ◌+◌, ◌-◌, ◌≤◌}
use native.Mathlib.Omega.{arith}
use mathlib.Core.Path.{refl, sym, subst, ◌∙◌}
use mathlib.Core.List.{List}
use lib.ListN.{length}
use Rattle.term.specs.Lent.{language_by}
use Rattle.term.proofs.Pairs.{together}
use Rattle.replace.specs.Filling.{Stores}
use Rattle.replace.specs.Splice.{listed_in}
use Rattle.replace.proofs.Fillings.{pass_first, pass_last, pass_tree_unfit, pass_tree, told_node, told_variable, told_other, put_deep, put_inside_unfit, put_wide, put_node, part_size}
use Rattle.replace.proofs.Forests.{own_some, extent_some_at, part_length}
use Rattle.replace.proofs.+fill_fill_node_fill_tree.Goals as goal

pub fill-loop-used-init : goal.fill-loop-used-init
fill-loop-used-init t c = pass_first _ _ _ _ _ _ _ _ _

pub fill-fill_tree-requires : goal.fill-fill_tree-requires
fill-fill_tree-requires t c = let a = c.args in
    let w = c.loop-used in
    let fits : w.used + c.extent-n.result ≤ length a.s.now = omega (arith, c.loop-used-test.true, c.extent-n.ensures.within, part_length a.s.now w.used) in
    let size = part_size a.s.now w.used c.extent-n.result fits in
    (omega arith, (omega (arith, size, extent_some_at _ a.s.now w.used _ c.loop-used-test.true c.extent-n.ensures.is), omega (arith, c.requires, w.invariant.less, fits, size)))

pub fill-returns-in_err-length : goal.fill-returns-in_err-length
fill-returns-in_err-length t c = let w = c.loop-used in
    rw c.from_residual.ensures
    (together (pass_tree_unfit _ _ _ _ _ _ _ _ _ w.out w.used w.put w.count c.loop-used-test.true w.invariant c.extent-n.result c.extent-n.ensures.is
    _ refl c.fill_tree.new.out c.in_err-length.ensures.is) (λ first rest. record { is = first; within = rest.0; stores = rest.1 }))

pub fill-loop-used-smaller : goal.fill-loop-used-smaller
fill-loop-used-smaller t c = let a = c.args in
    omega (arith, c.loop-used-test.true, c.extent-n.ensures.within, part_length a.s.now c.loop-used.used, extent_some_at _ a.s.now c.loop-used.used _ c.loop-used-test.true c.extent-n.ensures.is)

pub fill-loop-used-preserved : goal.fill-loop-used-preserved
fill-loop-used-preserved t c = let a = c.args in
    let w = c.loop-used in
    let fits : w.used + c.extent-n.result ≤ length a.s.now = omega (arith, c.loop-used-test.true, c.extent-n.ensures.within, part_length a.s.now w.used) in
    pass_tree _ _ _ _ _ _ _ _ _ w.out w.used w.put w.count c.loop-used-test.true w.invariant c.extent-n.result c.extent-n.ensures.is
    _ refl c.fill_tree.new.out _ _ c.in_ok-length.ensures.is c.in_ok-length.ensures.within c.in_ok-length.ensures.stores c.fill_tree.auto.out fits
    (omega (arith, part_size a.s.now w.used c.extent-n.result fits))

pub fill-returns : goal.fill-returns
fill-returns t c = let w = c.loop-used in
    together (pass_last _ _ _ _ _ _ _ _ _ w.out w.used w.put w.count c.loop-used-test.false w.invariant) (λ first rest. record { is = first; within = rest.0; stores = rest.1 })

pub fill_node-returns-then-left-eq0 : goal.fill_node-returns-then-left-eq0
fill_node-returns-then-left-eq0 t c = together (put_deep _ _ _ _ _ _ _ _ c.requires.0 c.args.out.now c.if-left-eq0.true) (λ first rest. record { is = first; within = rest.0; stores = rest.1 })

pub fill_node-returns-in_err-length : goal.fill_node-returns-in_err-length
fill_node-returns-in_err-length t c =
    rw c.from_residual.ensures
    (together (put_inside_unfit _ _ _ _ _ _ _ _ c.requires.0 (omega (arith, c.if-left-eq0.false)) c.children_of-inside.result.now c.children_of-inside.ensures.is
    c.listed-inner.result c.listed-inner.ensures c.fill.new.out c.in_err-length.ensures.is) (λ first rest. record { is = first; within = rest.0; stores = rest.1 }))

pub fill_node-returns-then-not-store_number : goal.fill_node-returns-then-not-store_number
fill_node-returns-then-not-store_number t c =
    together (put_wide _ _ _ _ _ _ _ _ c.requires.0 (omega (arith, c.if-left-eq0.false)) c.children_of-inside.result.now c.children_of-inside.ensures.is
    c.listed-inner.result c.listed-inner.ensures c.own_size-own.result c.own_size-own.ensures _ _ c.in_ok-length.ensures.is c.store_number.new.out
    (sym c.store_number.ensures.told ∙ c.if-not-store_number.true)) (λ first rest. record { is = first; within = rest.0; stores = rest.1 })

pub fill_node-returns : goal.fill_node-returns
fill_node-returns t c = let a = c.args in
    together (put_node _ _ _ _ _ _ _ _ c.requires.0 (omega (arith, c.if-left-eq0.false)) c.children_of-inside.result.now c.children_of-inside.ensures.is
    c.listed-inner.result c.listed-inner.ensures c.own_size-own.result c.own_size-own.ensures _ _ c.in_ok-length.ensures.is c.fill.new.out c.store_number.new.out
    (sym c.store_number.ensures.told ∙ c.if-not-store_number.false)
    (subst (λ (o : List ℕ). Stores a.language.now.table.now (listed_in (language_by a.language.now)) c.listed-inner.result c.children_of-inside.result.now a.matched.now.bytes.now a.matched.now.answer.now (a.left - 1) (a.at + c.own_size-own.result) o c.fill.new.out) c.store.ensures c.in_ok-length.ensures.stores)
    c.store_number.ensures.stores c.in_ok-length.ensures.within (c.children_of-inside.ensures.less c.requires.0) (own_some _ _ _ c.own_size-own.ensures).1) (λ first rest. record { is = first; within = rest.0; stores = rest.1 })

pub fill_tree-returns-in-Symbol : goal.fill_tree-returns-in-Symbol
fill_tree-returns-in-Symbol t c =
    together (told_node _ _ _ _ _ _ _ _ _ _ (sym c.decode.ensures ∙ c.in-Symbol.is) c.fill_node.result c.fill_node.new.out
    c.fill_node.ensures.is c.fill_node.ensures.within c.fill_node.ensures.stores) (λ first rest. record { is = first; within = rest.0; stores = rest.1 })

pub fill_tree-returns-in-Name : goal.fill_tree-returns-in-Name
fill_tree-returns-in-Name t c =
    together (told_variable _ _ _ _ _ _ _ _ _ c.requires.0 _ c.fill_part.result c.fill_part.new.out c.fill_part.ensures.is c.fill_part.ensures.within
    _ c.decode.ensures c.in-Name.is) (λ first rest. record { is = first; within = rest.0; stores = rest.1 })

pub fill_tree-returns-in-Complement : goal.fill_tree-returns-in-Complement
fill_tree-returns-in-Complement t c =
    together (told_other _ _ _ _ _ _ _ _ _ c.requires.0 _ c.decode.ensures c.in-Complement.is c.args.out.now) (λ first rest. record { is = first; within = rest.0; stores = rest.1 })
