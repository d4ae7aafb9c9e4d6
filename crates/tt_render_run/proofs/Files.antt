-- The file of an image that is made.
use Rattle.std.proofs.Common.{◌≡◌, ℕ, List, Option, Some, None, IfSome, Result, Ok, Err, ap, refl, sym}
use Rattle.tt_strike.specs.picture.Pictures.{Image}
use Rattle.tt_strike.specs.Refusals.{Refused}
use Rattle.tt_render_streams.specs.File.{as_file, p4}

-- an image that is refused has no file
pub no_file : (made : Result Image Refused) (told : Option Refused) → IfSome told (λ e. made ≡ Err e)
    → IfSome told (λ e. as_file made ≡ Err e)
no_file made None refused = tt
no_file made (Some e) refused = rw refused refl

-- a file that is refused has no image
pub no_image : (made : Result Image Refused) (why : Refused) → as_file made ≡ Err why → made ≡ Err why
no_image (Ok i) why refused = absurd cc
no_image (Err e) why refused = let same : e ≡ why = cc in ap Err same

-- bytes that are made are the file of an image
pub file_made : (made : Result Image Refused) (bytes : List ℕ) → as_file made ≡ Ok bytes
    → (i : Image) × (made ≡ Ok i) × (bytes ≡ p4 i)
file_made (Ok i) bytes was =
    let same : p4 i ≡ bytes = cc in (i, refl, sym same)
file_made (Err e) bytes was = absurd cc
