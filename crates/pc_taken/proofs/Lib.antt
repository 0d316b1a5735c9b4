mod HeadedLaws
mod FirstLaws
mod TakenLaws
