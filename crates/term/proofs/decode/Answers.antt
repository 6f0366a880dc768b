-- `term::decode` meets its contract: each arm's range decides the tests of `decode_of`.
use borrow.Author.Tests.{lt-ltb, le-ltb, ne_eqb}
use native.Mathlib.Omega.{arith}
use Rattle.term.specs.Code.{decode_of}
use Rattle.term.proofs.decode.Goals as goal

pub returns-in-248 : goal.returns-in-248
unfolding decode_of
returns-in-248 c = rw c.in-248.is

pub returns-in-0-to-199 : goal.returns-in-0-to-199
unfolding decode_of
returns-in-0-to-199 c = let b = c.args.b in
    simp (lt-ltb b 200 (omega arith))

pub returns-in-200-to-231 : goal.returns-in-200-to-231
unfolding decode_of
returns-in-200-to-231 c = let b = c.args.b in
    simp (le-ltb b 200 (omega arith), lt-ltb b 232 (omega arith))

pub returns-in-232-to-247 : goal.returns-in-232-to-247
unfolding decode_of
returns-in-232-to-247 c = let b = c.args.b in
    simp (le-ltb b 200 (omega arith), le-ltb b 232 (omega arith), lt-ltb b 248 (omega arith))

pub returns-in_default : goal.returns-in_default
unfolding decode_of
returns-in_default c = let b = c.args.b in
    simp (le-ltb b 200 (omega arith), le-ltb b 232 (omega arith), le-ltb b 248 (omega (arith, c.in_default.in_default-own.rest.1)), ne_eqb b 248 c.in_default.in_default-own.rest.1)
