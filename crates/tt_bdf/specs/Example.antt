-- A whole file. Adobe, "Glyph Bitmap Distribution Format (BDF) Specification", version 2.1.
use Rattle.std.specs.Prelude.{◌≡◌, refl, pos, false, [], ◌∷◌, codes}
use Rattle.std.specs.Fmt.{digits}
use Rattle.tt_bdf.specs.declared.character.BdfCharacter.{BdfCharacter}
use Rattle.tt_bdf.specs.Facts.{FontFacts}
use Rattle.tt_bdf.specs.File.{bdf_text}

-- worked value: a square of two by two, and a blank, of a font without a name
abbrev a_square : BdfCharacter
a_square = record { code = 65; units = 256; advance = 4; left = pos 1; top = pos 2; width = 2; height = 2; at = 0 }

abbrev a_blank : BdfCharacter
a_blank = record { code = 66; units = 256; advance = 4; left = pos 0; top = pos 0; width = 0; height = 0; at = 2 }

abbrev nameless : FontFacts
nameless = record {
  family = codes "unknown";
  bold = false;
  italic = false;
  size = 16;
  em = 1024;
  rise = pos 4;
  depth = pos 0;
}

two_letters : bdf_text nameless (a_square ∷ a_blank ∷ []) (0xC0 ∷ 0xC0 ∷ [])
    ≡ codes "STARTFONT 2.1\nFONT -misc-unknown-Medium-R-Normal--16-160-72-72-M-40-ISO10646-1\nSIZE 16 72 72\nFONTBOUNDINGBOX 2 2 1 0\nSTARTPROPERTIES 16\nFOUNDRY \"misc\"\nFAMILY_NAME \"unknown\"\nWEIGHT_NAME \"Medium\"\nSLANT \"R\"\nSETWIDTH_NAME \"Normal\"\nADD_STYLE_NAME \"\"\nPIXEL_SIZE 16\nPOINT_SIZE 160\nRESOLUTION_X 72\nRESOLUTION_Y 72\nSPACING \"M\"\nAVERAGE_WIDTH 40\nCHARSET_REGISTRY \"ISO10646\"\nCHARSET_ENCODING \"1\"\nFONT_ASCENT 4\nFONT_DESCENT 0\nENDPROPERTIES\nCHARS 2\nSTARTCHAR U+0041\nENCODING 65\nSWIDTH 250 0\nDWIDTH 4 0\nBBX 2 2 1 0\nBITMAP\nC0\nC0\nENDCHAR\nSTARTCHAR U+0042\nENCODING 66\nSWIDTH 250 0\nDWIDTH 4 0\nBBX 0 0 0 0\nBITMAP\nENDCHAR\nENDFONT\n"
unfolding bdf_text digits
two_letters = refl
