-- Each step of the filter by the steps that it is made of, left shut. Assumes nothing.
use mathlib.Core.Path.{◌≡◌, refl}
use mathlib.Core.List.{List}
use lib.Ieee.{Float}
use Rattle.matrix.specs.Matrix.{product, sum, difference, transpose}
use Rattle.inverse.specs.Inverse.{identity}
use Rattle.kalman_filter.specs.Filter.{f_matrix, h_matrix, r_matrix, q_matrix, measured, predict_of, inverse_or_identity, gain_of, joseph_of, update_of}
use Rattle.kalman_filter.specs.declared.Filter.{Filter}
use Rattle.kalman_filter.specs.declared.DetectBox.{DetectBox}

pub predict-is : (f : Filter) → predict_of f ≡ record {
  x = product 7 7 1 f_matrix f.x;
  p = sum 49 (product 7 7 7 (product 7 7 7 f_matrix f.p) (transpose 7 7 f_matrix)) q_matrix;
}
unfolding predict_of
predict-is f = refl

pub gain-is : (f : Filter) → gain_of f ≡ product 7 4 4 (product 7 7 4 f.p (transpose 4 7 h_matrix)) (inverse_or_identity (sum 16 (product 4 7 4 h_matrix (product 7 7 4 f.p (transpose 4 7 h_matrix))) r_matrix))
unfolding gain_of
gain-is f = refl

pub joseph-is : (k p : List Float) → joseph_of k p ≡
    sum 49
    (product 7 7 7 (product 7 7 7 (difference 49 (identity 7) (product 7 4 7 k h_matrix)) p) (transpose 7 7 (difference 49 (identity 7) (product 7 4 7 k h_matrix))))
    (product 7 4 7 (product 7 4 4 k r_matrix) (transpose 7 4 k))
unfolding joseph_of
joseph-is k p = refl

pub update-is : (z : DetectBox) (f : Filter) → update_of z f ≡ record {
  x = sum 7 f.x (product 7 4 1 (gain_of f) (difference 4 (measured z) (product 4 7 1 h_matrix f.x)));
  p = joseph_of (gain_of f) f.p;
}
unfolding update_of
update-is z f = refl
