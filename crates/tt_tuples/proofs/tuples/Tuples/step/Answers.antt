use Rattle.std.proofs.Common.{ap, arith}
use Rattle.std.proofs.lemmas.Result.{err_from_is_err_and}
use Rattle.tt_tuples.specs.Tuples.{TuplesLeft}
use Rattle.tt_tuples.specs.Views.{points_of, room_tuple, source_of, tuple_header_of}
use Rattle.tt_tuples.proofs.Steps.{data_breaks, header_breaks, held, passed_over}
use Rattle.tt_tuples.proofs.tuples.Tuples.step.Goals as goal

pub returns-in_err-header-clause-exact : goal.returns-in_err-header-clause-exact
returns-in_err-header-clause-exact c =
    let i = c.self.inside in
    let left = ap (λ (t : TuplesLeft). t.left) c.self.view_is in
    let end = header_breaks (source_of i.source) (points_of i.shared) i.left i.at i.data_at c.in_err-header.field-0.0
    (omega (arith, c.requires, left)) c.in_err-header.ensures.exact in
    let p = err_from_is_err_and c.from_residual.result c.from_residual.ensures.1 in
    rw (p.1, p.2, ← c.self.view_is) end

pub returns-in_err-read-clause-exact : goal.returns-in_err-read-clause-exact
returns-in_err-read-clause-exact c =
    let i = c.self.inside in
    let left = ap (λ (t : TuplesLeft). t.left) c.self.view_is in
    let end = data_breaks (source_of i.source) (points_of i.shared) i.left i.at i.data_at
    (tuple_header_of c.in_ok-header.header) c.in_err-read.field-0.0 (omega (arith, c.requires, left))
    c.in_ok-header.ensures.exact (omega (arith, c.if-header-eq0.false)) c.in_err-read.ensures.exact in
    let p = err_from_is_err_and c.from_residual-in_err-read.result c.from_residual-in_err-read.ensures.1 in
    rw (p.1, p.2, ← c.self.view_is) end

pub returns-then-header-eq0-clause-exact : goal.returns-then-header-eq0-clause-exact
returns-then-header-eq0-clause-exact c =
    let i = c.self.inside in
    let left = ap (λ (t : TuplesLeft). t.left) c.self.view_is in
    let over = passed_over (source_of i.source) (points_of i.shared) i.left i.at i.data_at
    (tuple_header_of c.in_ok-header.header) (omega (arith, c.requires, left)) c.in_ok-header.ensures.exact
    c.if-header-eq0.true in
    rw (c.pass.ensures, ← c.self.view_is) over

pub returns-clause-exact : goal.returns-clause-exact
returns-clause-exact c =
    let i = c.self.inside in
    let left = ap (λ (t : TuplesLeft). t.left) c.self.view_is in
    let tuple = held (source_of i.source) (points_of i.shared) i.left i.at i.data_at
    (tuple_header_of c.in_ok-header.header) (room_tuple c.read.new.self (points_of i.shared))
    (omega (arith, c.requires, left)) c.in_ok-header.ensures.exact (omega (arith, c.if-header-eq0.false))
    c.in_ok-read.ensures.exact in
    rw (c.pass-2.ensures, ← c.self.view_is) tuple
