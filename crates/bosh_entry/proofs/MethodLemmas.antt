-- What is read is what was spelled.
use Rattle.std.proofs.Common.{◌≡◌, ℕ, true, List, ◌++◌, Some, refl}
use Rattle.bosh_base.specs.declared.method.Method.{Method}
use Rattle.bosh_base.specs.declared.method.Method.TheVariants.{CreateVm, DeleteVm, HasVm, FindVm, CreateDisk, DeleteDisk, HasDisk, FindDisk, AttachDisk, DetachDisk, GetDisks, Ping, GetState, Apply, Start, Drain, Stop, MountDisk, UnmountDisk, ListDisk, MigrateDisk, CompilePackage}
use Rattle.bosh_entry.specs.Reading.{one_of_at}
use Rattle.bosh_entry.specs.Method.{method, is_method, method_at, methods}
use Rattle.bosh_entry.proofs.CodingLemmas.{IsCoding, making_law}
use Rattle.bosh_entry.proofs.VariantLemmas.{AreVariants, variant_law, one_of_law}

method_again : (x : Method) (rest : List ℕ) → is_method x ≡ true → one_of_at methods (method x ++ rest) ≡ Some (x, rest)
unfolding method is_method
method_again CreateVm rest h = (making_law CreateVm).again tt rest h
method_again DeleteVm rest h = (making_law DeleteVm).again tt rest h
method_again HasVm rest h = (making_law HasVm).again tt rest h
method_again FindVm rest h = (making_law FindVm).again tt rest h
method_again CreateDisk rest h = (making_law CreateDisk).again tt rest h
method_again DeleteDisk rest h = (making_law DeleteDisk).again tt rest h
method_again HasDisk rest h = (making_law HasDisk).again tt rest h
method_again FindDisk rest h = (making_law FindDisk).again tt rest h
method_again AttachDisk rest h = (making_law AttachDisk).again tt rest h
method_again DetachDisk rest h = (making_law DetachDisk).again tt rest h
method_again GetDisks rest h = (making_law GetDisks).again tt rest h
method_again Ping rest h = (making_law Ping).again tt rest h
method_again GetState rest h = (making_law GetState).again tt rest h
method_again Apply rest h = (making_law Apply).again tt rest h
method_again Start rest h = (making_law Start).again tt rest h
method_again Drain rest h = (making_law Drain).again tt rest h
method_again Stop rest h = (making_law Stop).again tt rest h
method_again MountDisk rest h = (making_law MountDisk).again tt rest h
method_again UnmountDisk rest h = (making_law UnmountDisk).again tt rest h
method_again ListDisk rest h = (making_law ListDisk).again tt rest h
method_again MigrateDisk rest h = (making_law MigrateDisk).again tt rest h
method_again CompilePackage rest h = (making_law CompilePackage).again tt rest h

methods_are : AreVariants method is_method 0 methods
unfolding method is_method
methods_are = (
  variant_law (making_law CreateVm) (λ p. refl) (λ p. refl),
  (
    variant_law (making_law DeleteVm) (λ p. refl) (λ p. refl),
    (
      variant_law (making_law HasVm) (λ p. refl) (λ p. refl),
      (
        variant_law (making_law FindVm) (λ p. refl) (λ p. refl),
        (
          variant_law (making_law CreateDisk) (λ p. refl) (λ p. refl),
          (
            variant_law (making_law DeleteDisk) (λ p. refl) (λ p. refl),
            (
              variant_law (making_law HasDisk) (λ p. refl) (λ p. refl),
              (
                variant_law (making_law FindDisk) (λ p. refl) (λ p. refl),
                (
                  variant_law (making_law AttachDisk) (λ p. refl) (λ p. refl),
                  (
                    variant_law (making_law DetachDisk) (λ p. refl) (λ p. refl),
                    (
                      variant_law (making_law GetDisks) (λ p. refl) (λ p. refl),
                      (
                        variant_law (making_law Ping) (λ p. refl) (λ p. refl),
                        (
                          variant_law (making_law GetState) (λ p. refl) (λ p. refl),
                          (
                            variant_law (making_law Apply) (λ p. refl) (λ p. refl),
                            (
                              variant_law (making_law Start) (λ p. refl) (λ p. refl),
                              (
                                variant_law (making_law Drain) (λ p. refl) (λ p. refl),
                                (
                                  variant_law (making_law Stop) (λ p. refl) (λ p. refl),
                                  (
                                    variant_law (making_law MountDisk) (λ p. refl) (λ p. refl),
                                    (
                                      variant_law (making_law UnmountDisk) (λ p. refl) (λ p. refl),
                                      (
                                        variant_law (making_law ListDisk) (λ p. refl) (λ p. refl),
                                        (
                                          variant_law (making_law MigrateDisk) (λ p. refl) (λ p. refl),
                                          (variant_law (making_law CompilePackage) (λ p. refl) (λ p. refl), tt),
                                        ),
                                      ),
                                    ),
                                  ),
                                ),
                              ),
                            ),
                          ),
                        ),
                      ),
                    ),
                  ),
                ),
              ),
            ),
          ),
        ),
      ),
    ),
  ),
)

pub method_law : IsCoding method is_method method_at
unfolding method_at
method_law = one_of_law methods methods_are (λ x. method_again x)
