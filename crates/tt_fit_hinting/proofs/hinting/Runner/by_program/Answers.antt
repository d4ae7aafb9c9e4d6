use Rattle.std.proofs.Common.{◌∙◌, ap, length, arith}
use Rattle.std.specs.Prelude.{option_map}
use Rattle.tt_core.specs.Limits.{step_limit}
use Rattle.tt_exec.specs.Machines.{Machine, run_from}
use Rattle.tt_exec.specs.Parts.{parts_of}
use Rattle.tt_exec.specs.Work.{work_within}
use Rattle.tt_exec.specs.step.Views.{code_of}
use Rattle.tt_fit_hinting.proofs.Paid.{copies-spent, copies-paid, program-refused, refusal-leaves}
use Rattle.tt_fit_hinting.proofs.Zones.{zone-length}
use Rattle.tt_fit_outline.specs.Outline.{phantom_of}
use Rattle.tt_fit_outline.specs.Views.{outline_of, units_view}
use Rattle.tt_fit_hinting.specs.Views.{program_view}
use Rattle.tt_fit_hinting.specs.Hinting.{by_program, run_of}
use Rattle.tt_fit_hinting.proofs.hinting.Runner.by_program.Goals as goal

pub returns-in-Err-clause-exact : goal.returns-in-Err-clause-exact
returns-in-Err-clause-exact c =
    let put = rw c.in_ok-zones.ensures.exact at c.in_ok-begin_again.ensures.exact in
    program-refused (parts_of c.args.parts.now) (program_view c.args.program) (outline_of c.args.outline)
    (phantom_of c.in_ok-grid.grid) (code_of c.code_in_glyf.result) c.begin_again.new.self c.run_paid.new.self
    c.in-Err.fault c.refusal_of.result c.in_ok-grid.ensures.exact c.code_in_glyf.ensures
    put c.refusal_of.ensures c.in-Err.ensures.outcome

pub returns-in_ok-left_outline-in-Ok-clause-exact : goal.returns-in_ok-left_outline-in-Ok-clause-exact
unfolding by_program run_of
returns-in_ok-left_outline-in-Ok-clause-exact c =
    let put = rw c.in_ok-zones.ensures.exact at c.in_ok-begin_again.ensures.exact in
    grind (
      arith,
      c.in_ok-grid.ensures.exact,
      put,
      c.code_in_glyf.ensures,
      c.in-Ok.ensures.outcome,
      c.glyph_points.ensures.exact,
      c.scan.ensures,
      c.in_ok-left_outline-in-Ok.ensures.exact,
    )

pub left_outline-requires-clause-count : goal.left_outline-requires-clause-count
left_outline-requires-clause-count c =
    let put = rw c.in_ok-zones.ensures.exact at c.in_ok-begin_again.ensures.exact in
    ap length c.glyph_points.ensures.exact ∙ c.in-Ok.ensures.shape.glyph
    ∙ ap (λ (m : Machine). length m.state.zones.glyph) put
    ∙ zone-length (option_map units_view c.args.program.units) (outline_of c.args.outline)
    (phantom_of c.in_ok-grid.grid)

pub returns-in_default-clause-work : goal.returns-in_default-clause-work
returns-in_default-clause-work c =
    copies-spent (parts_of c.args.parts.now) (program_view c.args.program) (outline_of c.args.outline)
    (phantom_of c.in_ok-grid.grid) c.args.self.now.work.left c.glyf_fault.result c.in_ok-grid.ensures.exact
    c.in_default.ensures.0 c.glyf_fault.ensures.exact

pub returns-in-Err-clause-work : goal.returns-in-Err-clause-work
returns-in-Err-clause-work c =
    let put = rw c.in_ok-zones.ensures.exact at c.in_ok-begin_again.ensures.exact in
    let works =
    copies-paid (parts_of c.args.parts.now) (program_view c.args.program) (outline_of c.args.outline)
    (phantom_of c.in_ok-grid.grid) c.args.self.now.work.left c.pay.new.work.left (code_of c.code_in_glyf.result)
    c.begin_again.new.self c.in_ok-grid.ensures.exact c.in-Some.ensures.2 c.code_in_glyf.ensures
    put in
    rw works
    (refusal-leaves (work_within step_limit (run_from (code_of c.code_in_glyf.result) c.begin_again.new.self.state))
    c.pay.new.work.left c.run_paid.new.work.left c.in-Err.fault c.refusal_of.result c.refusal_of.ensures
    c.in-Err.ensures.work)

pub returns-in_ok-left_outline-in-Ok-clause-work : goal.returns-in_ok-left_outline-in-Ok-clause-work
returns-in_ok-left_outline-in-Ok-clause-work c =
    let put = rw c.in_ok-zones.ensures.exact at c.in_ok-begin_again.ensures.exact in
    let works =
    copies-paid (parts_of c.args.parts.now) (program_view c.args.program) (outline_of c.args.outline)
    (phantom_of c.in_ok-grid.grid) c.args.self.now.work.left c.pay.new.work.left (code_of c.code_in_glyf.result)
    c.begin_again.new.self c.in_ok-grid.ensures.exact c.in-Some.ensures.2 c.code_in_glyf.ensures
    put in
    works ∙ c.in-Ok.ensures.work
