-- P1 to P10 of document 01, and our own examples, hold of the written definitions: each computes. Assumes nothing.
use mathlib.Core.Path.{refl}
use Rattle.rules.specs.Net.{rank_list}
use Rattle.rules.specs.Words.{tabulate}
use Rattle.rules.specs.Hierarchy.{is_hierarchy, linked, held}
use Rattle.rules.specs.Sweep.{reach}
use Rattle.rules.specs.Calls.{build_leaves, customise_leaves, change_leaves, distance_leaves, sweep_leaves, route_leaves}
use Rattle.rules.specs.Examples.{AllHold, paper, ours, built_by, customised_by}

pub paper_holds : AllHold paper
unfolding paper built_by customised_by distance_leaves route_leaves rank_list
paper_holds = (
  refl,
  (
    refl,
    (
      (refl, refl),
      (
        (refl, refl),
        (
          (refl, refl),
          (
            (refl, refl),
            (
              (refl, refl),
              (
                (refl, refl),
                (
                  (refl, refl),
                  (
                    refl,
                    (
                      (refl, refl),
                      (
                        refl,
                        (
                          refl,
                          tt,
                        ),
                      ),
                    ),
                  ),
                ),
              ),
            ),
          ),
        ),
      ),
    ),
  ),
)

pub ours_hold : AllHold ours
unfolding ours built_by customised_by build_leaves customise_leaves change_leaves distance_leaves sweep_leaves route_leaves rank_list is_hierarchy reach linked held tabulate
ours_hold = (
  (refl, refl),
  (
    (refl, refl),
    (
      (refl, refl),
      (
        (refl, refl),
        (
          refl,
          (
            (refl, refl),
            (
              refl,
              (
                refl,
                (
                  refl,
                  (
                    (refl, refl),
                    (
                      refl,
                      (
                        refl,
                        (
                          refl,
                          (
                            refl,
                            (
                              refl,
                              (
                                refl,
                                (
                                  refl,
                                  (
                                    refl,
                                    (
                                      refl,
                                      (
                                        refl,
                                        (
                                          refl,
                                          (
                                            refl,
                                            (
                                              refl,
                                              (
                                                refl,
                                                (
                                                  refl,
                                                  (
                                                    refl,
                                                    (
                                                      refl,
                                                      (
                                                        refl,
                                                        (
                                                          refl,
                                                          (
                                                            refl,
                                                            (
                                                              refl,
                                                              (
                                                                refl,
                                                                (
                                                                  refl,
                                                                  (
                                                                    refl,
                                                                    (
                                                                      refl,
                                                                      ((refl, refl), ((refl, refl), ((refl, refl), (refl, (refl, (refl, (refl, (refl, (refl, (refl, (refl, (refl, (refl, (refl, (refl, (refl, (refl, tt))))))))))))))))),
                                                                    ),
                                                                  ),
                                                                ),
                                                              ),
                                                            ),
                                                          ),
                                                        ),
                                                      ),
                                                    ),
                                                  ),
                                                ),
                                              ),
                                            ),
                                          ),
                                        ),
                                      ),
                                    ),
                                  ),
                                ),
                              ),
                            ),
                          ),
                        ),
                      ),
                    ),
                  ),
                ),
              ),
            ),
          ),
        ),
      ),
    ),
  ),
)
