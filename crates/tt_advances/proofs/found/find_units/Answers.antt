use Rattle.std.proofs.Common.{◌≡◌, ◌∙◌, ℕ, List, Result, Ok, Err, map, refl}
use Rattle.std.proofs.lemmas.Result.{err_from_is_err_and}
use Rattle.tt_advances.specs.Defects.{IsAdvanceDefect}
use Rattle.tt_advances.specs.Found.{advances_tested, all_found, glyph_units}
use Rattle.tt_advances.proofs.Finding.{found_here, sound_here, tables_refuse, tables_tell, tells_here, units_here}
use Rattle.tt_advances.proofs.found.find_units.Goals as goal

pub returns-in_err-found-clause-exact : goal.returns-in_err-found-clause-exact
returns-in_err-found-clause-exact c =
    let p = err_from_is_err_and c.from_residual.result c.from_residual.ensures.1 in
    rw (p.1, p.2) (tables_refuse c.args.face.now (map (λ (g : ℕ × ℕ). g.0) c.args.line.now) c.in_err-found.field-0.0
    c.requires.finds c.in_err-found.ensures.tables)

pub returns-in_err-found-clause-fault : goal.returns-in_err-found-clause-fault
returns-in_err-found-clause-fault c =
    let p = err_from_is_err_and c.from_residual.result c.from_residual.ensures.1 in
    rw (p.1, p.2) (tables_tell c.args.face.now (map (λ (g : ℕ × ℕ). g.0) c.args.line.now) c.in_err-found.field-0.0
    c.requires.finds c.in_err-found.ensures.fault)

pub returns-clause-exact : goal.returns-clause-exact
returns-clause-exact c =
    found_here c.args.face.now c.in_ok-found.found.tables (map (λ (g : ℕ × ℕ). g.0) c.args.line.now) c.put.result
    c.requires.finds c.in_ok-found.ensures.tables (rw c.in_ok-found.ensures.face at c.put.ensures.exact)

pub returns-clause-units : goal.returns-clause-units
returns-clause-units c =
    units_here c.args.face.now c.in_ok-found.found.tables (map (λ (g : ℕ × ℕ). g.0) c.args.line.now) c.put.new.line c.put.result
    c.in_ok-found.ensures.tables (rw c.in_ok-found.ensures.face at c.put.ensures.units)

pub returns-clause-sound : goal.returns-clause-sound
returns-clause-sound c =
    sound_here c.args.face.now c.in_ok-found.found.tables (map (λ (g : ℕ × ℕ). g.0) c.args.line.now) c.put.result
    c.requires.finds c.in_ok-found.ensures.tables (rw c.in_ok-found.ensures.face at c.put.ensures.exact)

pub returns-clause-fault : goal.returns-clause-fault
returns-clause-fault c =
    tells_here c.args.face.now c.in_ok-found.found.tables (map (λ (g : ℕ × ℕ). g.0) c.args.line.now) c.put.result
    c.requires.finds c.in_ok-found.ensures.tables (rw c.in_ok-found.ensures.face at c.put.ensures.exact)
