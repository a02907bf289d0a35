use Rattle.std.proofs.Common.{◌≡◌, ◌∙◌, ◌+◌, ◌<◌, ◌&&◌, true, false, ℕ, Bool, List, [], ◌∷◌, length, get_or, drop, ap, sym, arith}
use Rattle.std.specs.List.{list_all}
use Rattle.std.proofs.lemmas.Grind.{common_steps}
use Rattle.std.proofs.lemmas.List.{drop_more}
use Rattle.bosh_base.specs.declared.key.Key.{Key}
use Rattle.bosh_compile.specs.Readiness.{is_among}
use Rattle.bosh_compile.proofs.readiness.are_among.Goals as goal

next :
    (test : Key → Bool) (keys : List Key) (i : ℕ) (key : Key) → i < length keys → key ≡ get_or keys i key
    → list_all test (drop i keys) ≡ (test key && list_all test (drop (i + 1) keys))
next test keys i key within is =
    ap (list_all test) (drop_more keys i key within ∙ ap (λ k. k ∷ drop (i + 1) keys) (sym is))

pub loop-key-preserved : goal.loop-key-preserved
loop-key-preserved c =
    let test : Key → Bool = λ key. is_among key c.args.compiled.now in
    let keys = c.args.keys.now in
    let i = c.loop-key.key-index in
    let key = c.key-item.result in
    let there : test key ≡ true = sym c.has.ensures ∙ c.if-not-has.false in
    c.loop-key.invariant
    ∙ (next test keys i key c.loop-key-test.true c.key-item.is
    ∙ ap (λ (b : Bool). b && list_all test (drop (i + 1) keys)) there)

pub returns-then-not-has : goal.returns-then-not-has
returns-then-not-has c =
    let test : Key → Bool = λ key. is_among key c.args.compiled.now in
    let keys = c.args.keys.now in
    let i = c.loop-key.key-index in
    let key = c.key-item.result in
    let lacks : test key ≡ false = sym c.has.ensures ∙ c.if-not-has.true in
    sym (c.loop-key.invariant
    ∙ (next test keys i key c.loop-key-test.true c.key-item.is
    ∙ ap (λ (b : Bool). b && list_all test (drop (i + 1) keys)) lacks))

pub returns : goal.returns
returns c =
    let none : drop c.loop-key.key-index c.args.keys.now ≡ [] = grind (arith, common_steps) in
    sym (c.loop-key.invariant ∙ ap (list_all (λ (key : Key). is_among key c.args.compiled.now)) none)
