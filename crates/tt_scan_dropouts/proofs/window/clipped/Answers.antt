use Rattle.std.proofs.Common.{SFits, w32, rules}
use Rattle.std.proofs.lemmas.Int.{to_z-of_z}
use Rattle.tt_scan_dropouts.proofs.Clips.{no_columns, no_rows, parts_are, parts_near}
use Rattle.tt_scan_dropouts.proofs.window.clipped.Goals as goal

pub returns-in_err-across-clause-none : goal.returns-in_err-across-clause-none
returns-in_err-across-clause-none c =
    let left : SFits w32 c.args.window.left = search rules in
    let none = simp to_z-of_z at c.in_err-across.ensures.none in
    rw c.from_residual.ensures (no_columns c.args.window c.args.columns c.args.rows none)

pub returns-in_err-up-clause-none : goal.returns-in_err-up-clause-none
returns-in_err-up-clause-none c =
    let bottom : SFits w32 c.args.window.bottom = search rules in
    let none = simp to_z-of_z at c.in_err-up.ensures.none in
    rw c.from_residual-in_err-up.ensures (no_rows c.args.window c.args.columns c.args.rows none)

pub returns-clause-some : goal.returns-clause-some
returns-clause-some c =
    let left : SFits w32 c.args.window.left = search rules in
    let bottom : SFits w32 c.args.window.bottom = search rules in
    let from : SFits w32 c.in_ok-across.across.from = search rules in
    let up : SFits w32 c.in_ok-up.up.from = search rules in
    let across = simp to_z-of_z at c.in_ok-across.ensures.some in
    let upward = simp to_z-of_z at c.in_ok-up.ensures.some in
    simp to_z-of_z
    (parts_are c.args.window c.args.columns c.args.rows c.in_ok-across.across c.in_ok-up.up across upward)

pub returns-clause-near : goal.returns-clause-near
returns-clause-near c =
    let left : SFits w32 c.args.window.left = search rules in
    let bottom : SFits w32 c.args.window.bottom = search rules in
    let from : SFits w32 c.in_ok-across.across.from = search rules in
    let up : SFits w32 c.in_ok-up.up.from = search rules in
    let across = simp to_z-of_z at c.in_ok-across.ensures.within in
    let upward = simp to_z-of_z at c.in_ok-up.ensures.within in
    simp to_z-of_z
    (parts_near c.args.window c.args.columns c.args.rows c.in_ok-across.across c.in_ok-up.up
    c.requires.columns c.requires.rows across upward)
