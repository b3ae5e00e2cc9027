-- `text_pieces::holder::put_holder` meets its contract: the words fill the bytes, which are put up to the first zero.
use mathlib.Core.Path.{refl, sym}
use Rattle.text_pieces.specs.Pieces.{holder_of}
use Rattle.text_pieces.proofs.Pieces.{words_fill, words_long}
use native.Mathlib.Omega.{arith}
use Rattle.text_pieces.proofs.holder.put_holder.Goals as goal

pub slice_bounds-put_until_zero-end : goal.slice_bounds-put_until_zero-end
slice_bounds-put_until_zero-end c = sym (words_long _ _ _ _ _ _ _ _ _ refl c.put_word.ensures c.put_word-2.ensures c.put_word-3.ensures c.put_word-4.ensures)

pub put_until_zero-requires : goal.put_until_zero-requires
put_until_zero-requires c = omega (arith, words_long _ _ _ _ _ _ _ _ _ refl c.put_word.ensures c.put_word-2.ensures c.put_word-3.ensures c.put_word-4.ensures, c.requires)

pub returns : goal.returns
unfolding holder_of
returns c =
    record {
      put = rw (words_fill _ _ _ _ _ _ _ _ _ refl c.put_word.ensures c.put_word-2.ensures c.put_word-3.ensures c.put_word-4.ensures) at c.put_until_zero.ensures.put;
      upper_bound = omega (arith, words_long _ _ _ _ _ _ _ _ _ refl c.put_word.ensures c.put_word-2.ensures c.put_word-3.ensures c.put_word-4.ensures, c.put_until_zero.ensures.upper_bound);
    }
