use Rattle.tt_run_laws.proofs.Readings.{characters_have_lines, faces_map_as_fonts, faces_run_as_fonts, strict_maps, strict_runs, wide_maps, wide_runs}
use Rattle.tt_run_laws.proofs.readings_agree.Goals as goal

pub returns-clause-strict : goal.returns-clause-strict
returns-clause-strict c = strict_runs c.readings_give_faces.ensures.strict

pub returns-clause-strict_map : goal.returns-clause-strict_map
returns-clause-strict_map c =
    strict_maps (record { none = c.defaults_are_faces.ensures.none; rules = c.rules_keep_faces.ensures.plain; advances = c.tables_give_advances.ensures.default })
    c.readings_give_faces.ensures.strict

pub returns-clause-characters : goal.returns-clause-characters
returns-clause-characters c = characters_have_lines

pub returns-clause-wide : goal.returns-clause-wide
returns-clause-wide c =
    wide_runs c.readings_give_faces.ensures.strict c.readings_give_faces.ensures.extends c.faces_draw_alike.ensures

pub returns-clause-wide_map : goal.returns-clause-wide_map
returns-clause-wide_map c =
    wide_maps (record { none = c.defaults_are_faces.ensures.none; rules = c.rules_keep_faces.ensures.plain; advances = c.tables_give_advances.ensures.default })
    c.readings_give_faces.ensures.strict c.readings_give_faces.ensures.extends

pub returns-clause-fonts : goal.returns-clause-fonts
returns-clause-fonts c = faces_run_as_fonts c.readings_give_faces.ensures.fonts c.faces_draw_alike.ensures

pub returns-clause-fonts_map : goal.returns-clause-fonts_map
returns-clause-fonts_map c =
    faces_map_as_fonts (record { none = c.defaults_are_faces.ensures.none; rules = c.rules_keep_faces.ensures.plain; advances = c.tables_give_advances.ensures.default })
    c.readings_give_faces.ensures.fonts
