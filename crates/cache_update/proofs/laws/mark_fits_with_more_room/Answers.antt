use Rattle.cache_update.proofs.Chained.{fits_more}
use Rattle.cache_update.proofs.laws.mark_fits_with_more_room.Goals as goal

pub returns : goal.returns
returns c = λ m p q fits same kept_room held_room. fits_more m p q same.0 same.1 kept_room held_room fits
